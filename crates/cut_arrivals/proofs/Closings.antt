-- Least times by which all has ended.
use Rattle.std.proofs.Common.{◌≡◌, ℕ, ◌+◌, ◌<◌, ◌≤◌, ◌&&◌, ◌||◌, cond, ltb, eqb, max, List}
use Rattle.std.proofs.Common.{length, slice_index, arith}
use Rattle.std.specs.List.{list_any}
use Rattle.cut_arrivals.specs.ranks.Ranks.{IsRank}
use Rattle.cut_arrivals.specs.ranks.Closing.{IsLeast, IsEnough, IsBegun, IsRaised, is_doubtful}
use Rattle.cut_arrivals.proofs.RanksRanks.{second_is_first}

-- ---- what began at the first beginning, of the first n processes

pub record IsBegunTo (first n : ℕ) (reported_at stable_at : List ℕ) (time : ℕ) : Type 0 where
  pub ended : (u : ℕ) → u < n → slice_index reported_at u ≤ first → slice_index stable_at u ≤ time
  pub least : (w : ℕ) → IsEnough first reported_at stable_at w → time ≤ w

-- ---- what began before a time, of the first n processes

pub record IsRaisedTo (first n : ℕ) (reported_at stable_at : List ℕ) (old new : ℕ) : Type 0 where
  pub later : old ≤ new
  pub ended : (u : ℕ) → u < n → slice_index reported_at u < old → slice_index stable_at u ≤ new
  pub least : (w : ℕ) → IsEnough first reported_at stable_at w → old ≤ w → new ≤ w

pub raised_none : (first : ℕ) (reported_at stable_at : List ℕ) (old : ℕ)
    → IsRaisedTo first 0 reported_at stable_at old old
raised_none first reported_at stable_at old = grind arith

pub raised_all : (first n : ℕ) (reported_at stable_at : List ℕ) (old new : ℕ) → length reported_at ≤ n
    → IsRaisedTo first n reported_at stable_at old new
    → IsRaised first reported_at stable_at old new
raised_all first n reported_at stable_at old new all is = grind arith

pub raised_more : (first n : ℕ) (reported_at stable_at : List ℕ) (old time low high new : ℕ) → n < length reported_at
    → low ≡ slice_index reported_at n → high ≡ slice_index stable_at n → new ≡ max time (cond (ltb low time) high 0)
    → IsRaisedTo first n reported_at stable_at old time → IsRaisedTo first (n + 1) reported_at stable_at old new
raised_more first n reported_at stable_at old time low high new inside low_is high_is new_is is =
    grind arith

-- ---- the closing time

pub begun_raised : (first : ℕ) (reported_at stable_at : List ℕ) (old new : ℕ) → IsBegun first reported_at stable_at old
    → IsRaised first reported_at stable_at old new → IsBegun first reported_at stable_at new
begun_raised first reported_at stable_at old new begun raised = grind arith

-- ---- doubts

pub doubt_is : (end : ℕ) (reported_at : List ℕ) (first second time mark : ℕ) → first < end → IsLeast reported_at first
    → IsRank end 1 reported_at first → IsRank end 2 reported_at second
    → mark ≡ cond (list_any (λ x. eqb x time) reported_at) 1 0
    → eqb second first || (ltb first time && eqb mark 1) ≡ is_doubtful reported_at first time
doubt_is end reported_at first second time mark low least one two is =
    grind (arith, second_is_first end reported_at first second low least one two)
