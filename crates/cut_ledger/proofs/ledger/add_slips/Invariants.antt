use Rattle.std.proofs.Common.{take}
use Rattle.cut_ledger.proofs.Words.{AreGoodUpTo, AreOver}
use Rattle.cut_ledger.proofs.ledger.add_slips.Given as goal

-- the slips so far are good, and are what is held
abbrev pub invariant-loop-i : goal.invariant-loop-i
invariant-loop-i l = record {
  over : AreOver l.plan (take l.i l.slips) l.held_trials.trials l.held_trials.sums.items;
  good : AreGoodUpTo l.plan l.slips l.i;
}
