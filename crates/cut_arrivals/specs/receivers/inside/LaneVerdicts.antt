-- What only the crate's own clauses and proofs cite, beside specs/LaneVerdicts.antt.
use Rattle.std.specs.Prelude.{ℕ, Bool, false, cond, not, nat_lt}
use Rattle.std.specs.Prelude.{List, slice_index, slice_index_or}
use Rattle.std.specs.List.{range_with_len, list_any}

-- whether some candidate has ended by a time and has no flag, or has a flag and has not ended
abbrev pub is_other : ℕ → List ℕ → List Bool → ℕ → Bool
is_other time stable_at flags n =
    list_any (λ u. cond (slice_index_or flags u false) (nat_lt time (slice_index stable_at u)) (not (nat_lt time
    (slice_index stable_at u))))
    (range_with_len 0 n)
