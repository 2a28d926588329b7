use Rattle.std.proofs.Common.{◌≡◌, None}
use Rattle.cut_journal.specs.Adding.{Adds}
use Rattle.cut_migration.specs.Migration.{AreTrueUpTo, first_moved}
use Rattle.cut_migration.proofs.migration.move_slips.Given as goal

-- as many slips were moved as were looked at
abbrev pub invariant-loop-slip : goal.invariant-loop-slip
invariant-loop-slip g l = record {
  count : l.count ≡ l.slip-index;
  true : AreTrueUpTo l.fn.target.plan.now l.slips l.slip-index;
  added : Adds g.D.Disk.log (first_moved l.fn.target.plan.now l.slips l.slip-index) None l.fn.journal l.journal;
}
