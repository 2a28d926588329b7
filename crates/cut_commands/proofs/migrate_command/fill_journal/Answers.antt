use Rattle.std.proofs.Common.{List, Ok, Err, sym, subst}
use Rattle.cut_plan.specs.Values.{Values}
use Rattle.cut_ledger.specs.declared.slip.Slip.{Slip}
use Rattle.cut_commands.specs.Faults.{fault_of_store}
use Rattle.cut_commands.specs.inside.Migrate.{Fills}
use Rattle.cut_commands.proofs.MigrateLemmas.{fills_all, fills_some}
use Rattle.cut_commands.proofs.migrate_command.fill_journal.Goals.{in-Ok, in-Err}
use Rattle.cut_commands.proofs.migrate_command.fill_journal.Goals as goal

pub returns : goal.returns
returns g c =
    let v : Values = c.args.plan.now in
    let ss : List Slip = c.args.slips.now in
    let old = c.args.journal in
    let new = c.migrate.new.journal in
    elim c.match-migrate.branch [
      | in-Ok w ↦ rw w.ended-is
          (subst (λ d. Fills (Ok w.in-Ok.count) v ss (g.N.Disk.log old.disk) (g.N.Disk.log d)) (sym c.into_disk.ensures.disk)
          (fills_all g.N.Disk.log v ss old new c.requires.new c.into_disk.ensures.sound w.in-Ok.count w.in-Ok.ensures.ends))
      | in-Err w ↦ rw (w.ended-is, w.from.ensures)
          (subst (λ d. Fills (Err (fault_of_store w.in-Err.fault)) v ss (g.N.Disk.log old.disk) (g.N.Disk.log d))
          (sym c.into_disk.ensures.disk)
          (fills_some g.N.Disk.log v ss old new c.requires.new c.into_disk.ensures.sound w.in-Err.fault
          w.in-Err.ensures.ends))
    ]
