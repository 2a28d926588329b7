use Rattle.std.proofs.Common.{All, take}
use Rattle.cut_shares.proofs.Runs.{AreRuns}
use Rattle.cut_shares.proofs.Words.{IsSmall}
use Rattle.cut_shares.proofs.join.joined.merged.Given as goal

-- the slips that were looked at are joined
abbrev pub invariant-loop-slip : goal.invariant-loop-slip
invariant-loop-slip l = record {
  runs : AreRuns l.fn.plan (take l.slip-index l.slips) l.merged.items;
  small : All (IsSmall l.fn.plan) l.merged.items;
}
