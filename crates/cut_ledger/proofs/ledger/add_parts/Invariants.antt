use Rattle.std.proofs.Common.{◌≡◌, ◌++◌, map}
use Rattle.cut_ledger.proofs.Words.{part_of, range_with_len}
use Rattle.cut_ledger.proofs.ledger.add_parts.Given as goal

-- the parts so far stand after what was there
abbrev pub invariant-loop-i : goal.invariant-loop-i
invariant-loop-i l = l.parts.items ≡ l.initial.parts.items ++ map (part_of l.size l.piece) (range_with_len 0 l.i)
