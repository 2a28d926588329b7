use Rattle.std.proofs.Common.{◌≡◌, map, take}
use Rattle.cut_ledger.specs.Gaps.{piece_at}
use Rattle.cut_ledger.proofs.held_trials.pieces_at.Given as goal

-- the pieces of the spans so far
abbrev pub invariant-loop-span : goal.invariant-loop-span
invariant-loop-span l = l.pieces.items ≡ map piece_at (take l.span-index l.spans)
