-- How slips that ascend are merged one after another. Only the crate's private clauses cite it.
use Rattle.std.specs.Prelude.{ℕ, ◌+◌, ◌*◌, ◌/◌, ◌<◌, ◌≤◌, ◌==◌, ◌&&◌, Bool, List, [], ◌∷◌, length, slice_index_or}
use Rattle.std.specs.Prelude.{IsTrue, if◌then◌else◌, All}
use Rattle.cut_plan.specs.declared.limits.TheConstants.{MOST_NODES}
use Rattle.cut_plan.specs.Plan.{IsPlan}
use Rattle.cut_plan.specs.Values.{Values}
use Rattle.cut_outcome.specs.declared.piece.Piece.{Piece}
use Rattle.cut_outcome.specs.Sum.{is_piece, plus, IsAtMost}
use Rattle.cut_ledger.specs.declared.slip.Slip.{Slip}

-- a slip of a piece of the plan, with few totals
pub record IsSmall (v : Values) (s : Slip) : Type 0 where
  pub piece : IsTrue (is_piece v s.piece)
  pub few : IsAtMost (MOST_NODES * s.piece.count) s.totals

-- slips each of which begins where those before it have ended, or after that
pub record AreAscending (v : Values) (ss : List Slip) : Type 0 where
  pub plan : IsPlan v
  pub small : All (IsSmall v) ss
  pub ascend : (i j : ℕ) (d : Slip) → i < j → j < length ss →
      (slice_index_or ss i d).piece.first + (slice_index_or ss i d).piece.count ≤ (slice_index_or ss j d).piece.first

-- whether a piece, the second one, goes on where another of the same cell ends
abbrev pub adjoins : Values → Piece → Piece → Bool
adjoins v p q = (p.first / v.repeats == q.first / v.repeats) && (p.first + p.count == q.first)

-- a slip with one that goes on where it ends
abbrev pub with_next : Slip → Slip → Slip
with_next s x = record {
  piece = record { first = s.piece.first; count = s.piece.count + x.piece.count };
  totals = plus s.totals x.totals;
}

-- slips with one after them: it is merged with the last one if it goes on from there
abbrev pub with_slip : Values → List Slip → Slip → List Slip
with_slip v [] x = x ∷ []
with_slip v (s ∷ []) x = if adjoins v s.piece x.piece then with_next s x ∷ [] else s ∷ x ∷ []
with_slip v (s ∷ t ∷ ss) x = s ∷ with_slip v (t ∷ ss) x
