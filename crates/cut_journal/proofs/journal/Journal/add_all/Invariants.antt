use Rattle.std.proofs.Common.{None, take}
use Rattle.cut_journal.specs.Adding.{Adds}
use Rattle.cut_journal.proofs.journal.Journal.add_all.Given as goal

-- the slips so far are added
abbrev pub invariant-loop-slip : goal.invariant-loop-slip
invariant-loop-slip g l = record {
  added : Adds g.D.Disk.log (take l.slip-index l.slips) None l.fn.self l.self;
}
