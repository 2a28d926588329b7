-- First times of the elements of a list that pass a test.
use Rattle.std.proofs.Common.{◌≡◌, ℕ, ◌+◌, ◌<◌, Bool, true, false, cond, ◌&&◌, nat_le, List, [], ◌∷◌, map, filter, refl}
use Rattle.std.proofs.Common.{ap, sym, ◌∙◌, arith}
use Rattle.std.specs.List.{All, count_by, list_any}
use Rattle.std.proofs.lemmas.List.Elements.{All-filter}
use Rattle.std.proofs.lemmas.List.Sums.{sum_by-cons}
use Rattle.cut_lists.proofs.Counts.{list_any-count_by}
use Rattle.cut_lists.proofs.Maps.{count_by-map, map-map, maps_agree}
use Rattle.cut_arrivals.specs.ranks.Ranks.{rank_at}
use Rattle.cut_arrivals.specs.proposals.Rising.{IsRising}
use Rattle.cut_arrivals.proofs.RankLemmas.{rank_is}
use Rattle.cut_arrivals.proofs.Rises.{ranks_rise}

pub count_filter : {X : Type 0} (t p : X → Bool) (xs : List X) → count_by t (filter p xs)
    ≡ count_by (λ x. p x && t x) xs
count_filter t p [] = refl
count_filter {X} t p (x ∷ xs) =
    by (p x) (count_filter t p xs) ∙ sym (sum_by-cons (λ y. cond (p y && t y) 1 0) x xs)
  where
    by : (b : Bool) → count_by t (filter p xs) ≡ count_by (λ y. p y && t y) xs
        → count_by t (cond b (x ∷ filter p xs) (filter p xs)) ≡ cond (b && t x) 1 0 + count_by (λ y. p y && t y) xs
    by true rest = sum_by-cons (λ y. cond (t y) 1 0) x (filter p xs) ∙ ap (λ n. cond (t x) 1 0 + n) rest
    by false rest = (let same : count_by t (filter p xs) ≡ 0 + count_by (λ y. p y && t y) xs = omega (arith, rest)
        in same)

-- the first has come exactly where some has
pub first_come : {X : Type 0} (end : ℕ) (time : X → ℕ) (p : X → Bool) (xs : List X) (t : ℕ) → t < end
    → list_any (λ x. p x && nat_le (time x) t) xs ≡ nat_le (rank_at end 1 (map time (filter p xs))) t
first_come end time p xs t low =
    grind (arith, list_any-count_by, count_filter, count_by-map, rank_is)

-- where each time is changed, so is the first
pub first_moves : {X : Type 0} (end last : ℕ) (tau : ℕ → ℕ) → IsRising end last tau
    → (time other : X → ℕ) (p : X → Bool) (xs : List X)
    → All (λ x. other x ≡ tau (time x)) xs
    → rank_at last 1 (map other (filter p xs)) ≡ tau (rank_at end 1 (map time (filter p xs)))
first_moves end last tau rising time other p xs same =
    ap (rank_at last 1) (maps_agree other (λ x. tau (time x)) (filter p xs)
    (All-filter p (λ x. other x ≡ tau (time x)) xs same)
    ∙ sym (map-map time tau (filter p xs)))
    ∙ ranks_rise end last 1 (map time (filter p xs)) tau rising (omega arith)
