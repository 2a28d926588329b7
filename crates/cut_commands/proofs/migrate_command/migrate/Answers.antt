use Rattle.std.proofs.Common.{◌∙◌, ℕ, List, Option, Err, inl, inr, ap, refl, subst, arith}
use Rattle.std.proofs.lemmas.Result.{err_from_is_err_and}
use Rattle.cut_disks.specs.Log.{DiskLog}
use Rattle.cut_files.specs.Place.{Place, while_open}
use Rattle.cut_files.specs.declared.files.Mode.TheVariants.{Create}
use Rattle.cut_files.proofs.Everywhere.{stays_everywhere}
use Rattle.cut_files.proofs.Places.{open_beside, open_still, second_log, second_open}
use Rattle.cut_commands.specs.Migrate.{MigrateDisks, MigratesFrom}
use Rattle.cut_commands.specs.declared.fault.CliFault.{CliFault}
use Rattle.cut_commands.proofs.MigrateFiles.{all_stays, both_open, second_refused, source_shut, target_shut}
use Rattle.cut_commands.proofs.Sources.{same_place}
use Rattle.cut_commands.proofs.migrate_command.migrate.Goals as goal

pub returns-in_err-old-clause-ends : goal.returns-in_err-old-clause-ends
returns-in_err-old-clause-ends g c =
    let log = g.F.Files.log in
    let p = err_from_is_err_and c.from_residual.result c.from_residual.ensures.1 in inr (
      c.in_err-old.field-0.0,
      (
        inl c.in_err-old.ensures.refused,
        p.1 ∙ ap (λ (e : CliFault). Err e) p.2,
        refl,
        stays_everywhere c.args.paths.from.now (log c.args.files.now) (log c.open.new.self) c.in_err-old.ensures.elsewhere
            c.in_err-old.ensures.stays,
      ),
    )

pub close-requires : goal.close-requires
close-requires g c = grind (arith, open_still)

pub returns-in-Err-clause-ends : goal.returns-in-Err-clause-ends
returns-in-Err-clause-ends g c =
    let log = g.F.Files.log in inr (
      c.in-Err.fault,
      (
        second_refused c.args.paths.from.now c.args.paths.to.now c.in-Err.fault (log c.args.files.now)
            (log c.open.new.self) c.in_ok-old.ensures.elsewhere c.in-Err.ensures.refused,
        ap (λ (e : CliFault). Err e) c.from.ensures,
        refl,
        all_stays c.args.paths.from.now c.args.paths.to.now (g.F.Disk.Disk.log c.in_ok-old.old) (log c.args.files.now)
            (log c.open.new.self) (log c.open-2.new.self) (log c.close.new.self) c.in_ok-old.ensures.opened.0
            c.in_ok-old.ensures.opened.1 c.in_ok-old.ensures.elsewhere c.in-Err.ensures.stays c.in-Err.ensures.elsewhere
            c.close.ensures.closed c.close.ensures.elsewhere,
      ),
    )

pub close-requires-2 : goal.close-requires-2
close-requires-2 g c =
    open_beside c.args.paths.from.now c.args.paths.to.now (g.F.Files.log c.args.files.now c.args.paths.from.now)
    (g.F.Files.log c.open.new.self) (g.F.Files.log c.open-2.new.self) c.in_ok-old.ensures.opened.1
    c.in-Ok.ensures.opened.1 c.in-Ok.ensures.elsewhere

pub close-requires-3 : goal.close-requires-3
close-requires-3 g c =
    let log = g.F.Files.log in
    second_open c.args.paths.from.now c.args.paths.to.now (log c.args.files.now c.args.paths.from.now) Create
    (g.F.Disk.Disk.log c.in-Ok.new) _ (log c.open.new.self) (log c.open-2.new.self) (log c.close-2.new.self)
    c.in_ok-old.ensures.opened.1 c.in-Ok.ensures.opened c.close-2.ensures.closed c.close-2.ensures.elsewhere

pub returns-clause-ends : goal.returns-clause-ends
returns-clause-ends g c =
    let log = g.F.Files.log in
    let from : List ℕ = c.args.paths.from.now in
    let to : List ℕ = c.args.paths.to.now in
    let source : DiskLog = g.F.Disk.Disk.log c.in_ok-old.old in
    let target : DiskLog = g.F.Disk.Disk.log c.in-Ok.new in
    let source_back : DiskLog = g.F.Disk.Disk.log c.migrate_from-disk.result.disk.old in
    let target_back : DiskLog = g.F.Disk.Disk.log c.migrate_from-disk.result.disk.new in
    let d : MigrateDisks = record { old = source; old_back = source_back; new = target; new_back = target_back } in
    inl record {
      disks = d;
      source = c.in_ok-old.ensures.opened.0;
      target = second_log from to Create target (log c.args.files.now) (log c.open.new.self)
          c.in_ok-old.ensures.opened.1 c.in_ok-old.ensures.elsewhere c.in-Ok.ensures.opened.0;
      ends = subst (λ (plan : Option Place). MigratesFrom plan d (g.W.Wire.log c.args.wire.now)
          (g.W.Wire.log c.migrate_from-disk.new.wire) c.migrate_from-disk.result.ended)
          (c.of-source.ensures ∙ same_place (log c.open-2.new.self) (while_open to (while_open from (log c.args.files.now)))
          c.args.paths.plan (both_open from to (log c.args.files.now) (log c.open.new.self) (log c.open-2.new.self)
          c.in_ok-old.ensures.opened.1 c.in_ok-old.ensures.elsewhere c.in-Ok.ensures.opened.1 c.in-Ok.ensures.elsewhere))
          c.migrate_from-disk.ensures;
      source_after = source_shut from to (log c.args.files.now) (log c.open.new.self) (log c.open-2.new.self)
          (log c.close-2.new.self) (log c.close-3.new.self) target source_back target_back c.in_ok-old.ensures.opened.1
          c.in_ok-old.ensures.elsewhere c.in-Ok.ensures.opened.0 c.in-Ok.ensures.opened.1 c.in-Ok.ensures.elsewhere
          c.close-2.ensures.closed c.close-2.ensures.elsewhere c.close-3.ensures.closed c.close-3.ensures.elsewhere;
      target_after = target_shut from to (log c.args.files.now) (log c.open.new.self) (log c.open-2.new.self)
          (log c.close-2.new.self) (log c.close-3.new.self) target source_back target_back c.in_ok-old.ensures.opened.1
          c.in_ok-old.ensures.elsewhere c.in-Ok.ensures.opened.0 c.in-Ok.ensures.opened.1 c.in-Ok.ensures.elsewhere
          c.close-2.ensures.closed c.close-2.ensures.elsewhere c.close-3.ensures.closed c.close-3.ensures.elsewhere;
    }
