use Rattle.std.proofs.Common.{rules, [], None, refl}
use Rattle.cut_journal.proofs.Adding.{none_added}
use Rattle.cut_migration.proofs.Migrations.{adds_moved}
use Rattle.cut_migration.proofs.migration.move_slip.Goals as goal

pub returns-in_default : goal.returns-in_default
returns-in_default g c =
    ([], None, (none_added g.D.Disk.log c.args.journal.now c.journals_stay_readable.ensures.sound, (refl, refl)))

pub returns-then-not-is_true : goal.returns-then-not-is_true
returns-then-not-is_true g c = (
  [],
  None,
  (none_added g.D.Disk.log c.args.journal.now c.journals_stay_readable.ensures.sound, (refl, search rules, (refl, refl))),
)

pub returns : goal.returns
returns g c =
    adds_moved g.D.Disk.log c.add.result c.args.target.plan.now c.args.target.runner.plan.now c.args.number c.args.slip.now
    c.in-Some.result c.args.journal.now c.add.new.self c.args.target.upgrade_of c.in-Some.ensures
    (c.is_true.ensures.0 (search rules)) c.add.ensures
