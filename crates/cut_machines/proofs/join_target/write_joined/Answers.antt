use Rattle.cut_machines.proofs.JoinTargetLemmas.{filled_ends, left_filled, left_unclaimed}
use Rattle.cut_machines.proofs.join_target.write_joined.Goals as goal

pub returns-in-Ok : goal.returns-in-Ok
returns-in-Ok g c =
    let ends = filled_ends c.fill_journal.result.ended c.args.accepted.now.plan c.args.accepted.now.slips
    (g.N.Disk.log c.in-Ok.journal.disk) (g.N.Disk.log c.fill_journal.result.disk) c.fill_journal.ensures in
    record {
      left = left_filled c.fill_journal.result.ended c.args.accepted.now.plan c.args.accepted.now.slips
          (g.N.Disk.log c.args.disk) (g.N.Disk.log c.in-Ok.journal.disk) (g.N.Disk.log c.fill_journal.result.disk)
          (rw c.plan.ensures at c.in-Ok.ensures.made) c.fill_journal.ensures;
      count = ends.0;
      stops = ends.1;
    }

pub returns-in-Err-clause-left : goal.returns-in-Err-clause-left
returns-in-Err-clause-left g c =
    rw c.from.ensures
    (left_unclaimed c.in-Err.fault c.args.accepted.now.plan c.args.accepted.now.slips (g.N.Disk.log c.args.disk)
    (g.N.Disk.log c.in-Err.disk) c.in-Err.ensures.may (rw c.plan.ensures at c.in-Err.ensures.refused))
