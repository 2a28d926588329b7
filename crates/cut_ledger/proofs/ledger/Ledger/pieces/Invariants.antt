use Rattle.std.proofs.Common.{◌≡◌, take}
use Rattle.cut_ledger.proofs.Words.{flat_map, parts_of}
use Rattle.cut_ledger.proofs.ledger.Ledger.pieces.Given as goal

-- the parts of the gaps so far
abbrev pub invariant-loop-gap : goal.invariant-loop-gap
invariant-loop-gap l = l.pieces.items ≡ flat_map (parts_of l.size) (take l.gap-index l.gap-items)
