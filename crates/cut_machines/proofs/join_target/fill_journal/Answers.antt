use Rattle.cut_machines.proofs.JoinTargetLemmas.{fills_all, fills_some}
use Rattle.cut_machines.proofs.join_target.fill_journal.Goals.{in-Ok, in-Err}
use Rattle.cut_machines.proofs.join_target.fill_journal.Goals as goal

pub returns : goal.returns
returns g c =
    let v = c.args.accepted.now.plan in
    let ss = c.args.accepted.now.slips in
    let old = c.args.journal in
    let new = c.join.new.journal in
    elim c.match-join.branch [
      | in-Ok w ↦ rw (w.ended-is, c.into_disk.ensures.disk)
          (fills_all g.N.Disk.log v ss old new c.requires c.into_disk.ensures.sound w.in-Ok.count w.in-Ok.ensures)
      | in-Err w ↦ rw (w.ended-is, w.from.ensures, c.into_disk.ensures.disk)
          (fills_some g.N.Disk.log v ss old new c.requires c.into_disk.ensures.sound w.in-Err.fault w.in-Err.ensures)
    ]
