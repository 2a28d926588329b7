use Rattle.std.proofs.Common.{◌≡◌, take, length}
use Rattle.cut_ledger.specs.inside.DivisionInside.{ArePiecesCounted, AreWithin, gaps_in}
use Rattle.cut_ledger.proofs.Words.{flat_map, parts_of}
use Rattle.cut_ledger.proofs.division.Division.of_gaps.Given as goal

-- the gaps so far, and the pieces that they have
abbrev pub invariant-loop-gap : goal.invariant-loop-gap
invariant-loop-gap l = record {
  gaps : gaps_in l.stretches.items ≡ take l.gap-index l.gaps;
  end : l.end ≡ length (flat_map (parts_of l.size) (take l.gap-index l.gaps));
  within : AreWithin l.stretches.items;
  counted : ArePiecesCounted l.size l.stretches.items;
}
