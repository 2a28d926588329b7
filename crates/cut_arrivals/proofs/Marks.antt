-- Whether one candidate more differs from its flag.
use Rattle.std.proofs.Common.{◌≡◌, ℕ, ◌+◌, Bool, true, false, ◌||◌, not, nat_lt, cond, List, slice_index}
use Rattle.std.proofs.Common.{slice_index_or, arith}
use Rattle.std.proofs.lemmas.List.Folds.{list_any-append}
use Rattle.cut_lists.proofs.Ranges.{range_with_len_more}
use Rattle.cut_arrivals.specs.receivers.inside.LaneVerdicts.{is_other}

other_more : (time : ℕ) (stable_at : List ℕ) (flags : List Bool) (n : ℕ) (flag : Bool)
    → slice_index_or flags n false ≡ flag
    → is_other time stable_at flags (n + 1)
    ≡ is_other time stable_at flags n || (cond flag (nat_lt time (slice_index stable_at n)) (not (nat_lt time
    (slice_index stable_at n))) || false)
other_more time stable_at flags n flag is =
    grind (arith, range_with_len_more 0 n n, list_any-append)

-- one that has a flag
pub mark_late : (time : ℕ) (stable_at : List ℕ) (flags : List Bool) (n mark : ℕ) → slice_index_or flags n false ≡ true
    → mark ≡ cond (is_other time stable_at flags n) 1 0
    → cond (nat_lt time (slice_index stable_at n)) 1 mark ≡ cond (is_other time stable_at flags (n + 1)) 1 0
mark_late time stable_at flags n mark flag is =
    grind (arith, other_more time stable_at flags n true flag)

-- one that has none
pub mark_ended : (time : ℕ) (stable_at : List ℕ) (flags : List Bool) (n mark : ℕ) → slice_index_or flags n false ≡ false
    → mark ≡ cond (is_other time stable_at flags n) 1 0
    → cond (nat_lt time (slice_index stable_at n)) mark 1 ≡ cond (is_other time stable_at flags (n + 1)) 1 0
mark_ended time stable_at flags n mark flag is =
    grind (arith, other_more time stable_at flags n false flag)
