use Rattle.std.proofs.Common.{ℕ, Option, Result, refl, subst}
use Rattle.cut_plan.specs.Values.{Values}
use Rattle.cut_files.specs.Place.{Place}
use Rattle.cut_wires.specs.Log.{WireLog}
use Rattle.cut_commands.specs.Migrate.{EndsMove, MigrateDisks}
use Rattle.cut_commands.specs.Run.{source_place}
use Rattle.cut_commands.specs.declared.fault.CliFault.{CliFault}
use Rattle.cut_commands.proofs.MigrateLemmas.{migrates_all, migrates_none, migrates_unread}
use Rattle.cut_commands.proofs.migrate_command.migrate_from.Goals.{in-Ok-moved, in-Err-moved}
use Rattle.cut_commands.proofs.migrate_command.migrate_from.Goals as goal

pub returns-in-Err : goal.returns-in-Err
returns-in-Err g c =
    let d : MigrateDisks = record {
      old = g.O.Disk.log c.args.disks.old;
      old_back = g.O.Disk.log c.args.disks.old;
      new = g.N.Disk.log c.args.disks.new;
      new_back = g.N.Disk.log c.args.disks.new;
    } in
    migrates_unread (source_place g.F.Files.log c.args.source) d c.in-Err.fault (g.W.Wire.log c.args.wire.now)
    (g.W.Wire.log c.read_plan.new.wire) (refl, refl) c.in-Err.ensures

pub returns : goal.returns
returns g c =
    let plan : Option Place = source_place g.F.Files.log c.args.source in
    let v : Values = c.in-Ok.plan in
    let d : MigrateDisks = record {
      old = g.O.Disk.log c.args.disks.old;
      old_back = g.O.Disk.log c.move_study-disk.result.disk.old;
      new = g.N.Disk.log c.args.disks.new;
      new_back = g.N.Disk.log c.move_study-disk.result.disk.new;
    } in
    let old : WireLog = g.W.Wire.log c.args.wire.now in
    let mid : WireLog = g.W.Wire.log c.read_plan.new.wire in
    elim c.match-moved.branch [
      | in-Ok-moved w ↦ rw (w.ended-is, w.wire-is)
          (migrates_all plan d v old mid c.in-Ok.ensures w.in-Ok-moved.count w.write_moved-ended.result
          (g.W.Wire.log w.write_moved-ended.new.wire)
          (subst (λ (r : Result ℕ CliFault). EndsMove d v r) w.in-Ok-moved.is c.move_study-disk.ensures)
          w.write_moved-ended.ensures)
      | in-Err-moved w ↦ rw (w.ended-is, w.wire-is)
          (migrates_none plan d v old mid c.in-Ok.ensures w.in-Err-moved.fault
          (subst (λ (r : Result ℕ CliFault). EndsMove d v r) w.in-Err-moved.is c.move_study-disk.ensures))
    ]
