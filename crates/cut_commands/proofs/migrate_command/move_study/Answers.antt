use Rattle.std.proofs.Common.{List, refl, subst}
use Rattle.cut_ledger.specs.declared.slip.Slip.{Slip}
use Rattle.cut_commands.specs.Migrate.{MigrateDisks}
use Rattle.cut_commands.specs.inside.Migrate.{EndsFilling}
use Rattle.cut_commands.proofs.MigrateLemmas.{moved_ends, old_ends, was_read}
use Rattle.cut_commands.proofs.migrate_command.move_study.Goals as goal

pub returns-in-Ok : goal.returns-in-Ok
returns-in-Ok g c =
    let d : MigrateDisks = record {
      old = g.O.Disk.log c.args.disks.old;
      old_back = g.O.Disk.log c.slips_on-old.result.disk;
      new = g.N.Disk.log c.args.disks.new;
      new_back = g.N.Disk.log c.move_slips-new.result.disk;
    } in
    moved_ends d c.args.plan.now c.in-Ok.slips.items c.move_slips-new.result.ended
    (was_read d c.args.plan.now c.in-Ok.slips.items (rw c.in-Ok.is at c.slips_on-old.ensures.read))
    (subst (λ (ss : List Slip). EndsFilling c.move_slips-new.result.ended c.args.plan.now ss d.new d.new_back)
    c.deref.ensures.value c.move_slips-new.ensures)

pub returns-in-Err : goal.returns-in-Err
returns-in-Err g c =
    let d : MigrateDisks = record {
      old = g.O.Disk.log c.args.disks.old;
      old_back = g.O.Disk.log c.slips_on-old.result.disk;
      new = g.N.Disk.log c.args.disks.new;
      new_back = g.N.Disk.log c.args.disks.new;
    } in
    old_ends d c.args.plan.now c.in-Err.fault (rw c.in-Err.is at c.slips_on-old.ensures.refused) refl
