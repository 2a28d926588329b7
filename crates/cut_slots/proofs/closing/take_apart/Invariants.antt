use Rattle.std.proofs.Common.{◌≡◌, ◌++◌, List, vec_len, All}
use Rattle.cut_board.specs.Names.{board_id, board_of}
use Rattle.cut_slots.specs.Closing.{IsTakenApart}
use Rattle.cut_slots.specs.Pass.{Holding}
use Rattle.cut_slots.proofs.closing.take_apart.Given as goal

-- those that were taken from the end are taken apart
abbrev pub invariant-loop-pass : goal.invariant-loop-pass
invariant-loop-pass g l = record {
  own : All (λ s. board_of s ≡ board_id l.board) l.seats.items;
  left_own : All (λ p. p.hall ≡ board_id l.board) l.passes.items;
  taken : (taken : List Holding) × (l.fn.passes.items ≡ l.passes.items ++ taken)
      × IsTakenApart taken l.seats.items l.made.parts l.made.amount;
}

abbrev pub decreases-loop-pass : goal.decreases-loop-pass
decreases-loop-pass g l = vec_len l.passes
