-- The time by which all that began before it has ended. Each process begins at its low and ends at its high.
use Rattle.std.specs.Prelude.{ℕ, ◌<◌, ◌≤◌, ◌==◌, ◌&&◌, ◌||◌, Bool, nat_lt, List, length, slice_index, count_by}
use Rattle.std.specs.Prelude.{Contains}
use Rattle.std.specs.List.{list_any}

-- the least of some times
pub record IsLeast (xs : List ℕ) (x : ℕ) : Type 0 where
  pub below : (u : ℕ) → u < length xs → x ≤ slice_index xs u
  pub among : Contains xs x

-- by w has ended what began at the first beginning of all, and what began before w
pub record IsEnough (first : ℕ) (reported_at stable_at : List ℕ) (w : ℕ) : Type 0 where
  pub begun : (u : ℕ) → u < length reported_at → slice_index reported_at u ≤ first → slice_index stable_at u ≤ w
  pub before : (u : ℕ) → u < length reported_at → slice_index reported_at u < w → slice_index stable_at u ≤ w

-- the least such time
pub record IsClosing (first : ℕ) (reported_at stable_at : List ℕ) (time : ℕ) : Type 0 where
  pub enough : IsEnough first reported_at stable_at time
  pub least : (w : ℕ) → IsEnough first reported_at stable_at w → time ≤ w

-- by this time has ended what began at the first beginning of all, and it is after no time that is enough
pub record IsBegun (first : ℕ) (reported_at stable_at : List ℕ) (time : ℕ) : Type 0 where
  pub ended : (u : ℕ) → u < length reported_at → slice_index reported_at u ≤ first → slice_index stable_at u ≤ time
  pub least : (w : ℕ) → IsEnough first reported_at stable_at w → time ≤ w

-- a later time, by which has ended what began before an earlier one, and which is after no time that is enough if that
-- one is not
pub record IsRaised (first : ℕ) (reported_at stable_at : List ℕ) (old new : ℕ) : Type 0 where
  pub later : old ≤ new
  pub ended : (u : ℕ) → u < length reported_at → slice_index reported_at u < old → slice_index stable_at u ≤ new
  pub least : (w : ℕ) → IsEnough first reported_at stable_at w → old ≤ w → new ≤ w

-- whether equal times may stand for different ones where it matters: two began first, or some begins as all has ended
abbrev pub is_doubtful : List ℕ → ℕ → ℕ → Bool
is_doubtful reported_at first time =
    nat_lt 1 (count_by (λ x. x == first) reported_at) || (nat_lt first time && list_any (λ x. x == time) reported_at)
