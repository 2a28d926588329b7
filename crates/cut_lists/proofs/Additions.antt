-- Sums and counts over the numbers of a range of which a part passes that did not.
use Rattle.std.proofs.Common.{◌≡◌, ℕ, ◌+◌, ◌-◌, ◌<◌, ◌≤◌, Bool, true, false, List, [], ◌∷◌, ◌++◌, All, filter}
use Rattle.std.proofs.Common.{length}
use Rattle.std.proofs.Common.{suc, refl, sym, ap, ◌∙◌, arith}
use Rattle.std.specs.List.{range_with_len, sum_by, count_by}
use Rattle.std.proofs.lemmas.List.Elements.{filter-append}
use Rattle.std.proofs.lemmas.List.FromFn.{length-range_with_len}
use Rattle.std.proofs.lemmas.List.Sums.{sum_by-append, sum_by-cons, length-filter}
use Rattle.cut_lists.proofs.Counts.{filter-none}
use Rattle.cut_lists.proofs.Ranges.{All-range_with_len, filter_agree_on, ranges-join}

-- all is kept where all passes
pub filter-all : {X : Type 0} (p : X → Bool) (xs : List X) → All (λ x. p x ≡ true) xs → filter p xs ≡ xs
filter-all p [] all = refl
filter-all {X} p (x ∷ xs) all =
    let first : p x ≡ true = all 0 x (omega arith) in
    let rest : filter p xs ≡ xs = filter-all p xs (λ k d low. all (suc k) d (omega arith)) in
    cc

-- among n numbers from low on, those of a part that none passed of now pass too
pub record PassesPart (old new : ℕ → Bool) (low n from m : ℕ) : Type 0 where
  pub starts : low ≤ from
  pub ends : from + m ≤ low + n
  pub inside : (t : ℕ) → from ≤ t → t < from + m → (old t ≡ false) × (new t ≡ true)
  pub outside : (t : ℕ) → (from ≤ t → t < from + m → ⊥) → new t ≡ old t

pub sum_of_more : (f : ℕ → ℕ) (old new : ℕ → Bool) (low n from m : ℕ) → PassesPart old new low n from m
    → sum_by f (filter new (range_with_len low n))
    ≡ sum_by f (filter old (range_with_len low n)) + sum_by f (range_with_len from m)
sum_of_more f old new low n from m part =
    let left : ℕ = from - low in
    let right : ℕ = low + n - (from + m) in
    let before : List ℕ = range_with_len low left in
    let own : List ℕ = range_with_len from m in
    let later : List ℕ = range_with_len (from + m) right in
    let first : low + left ≡ from = omega arith in
    let second : low + (left + m) ≡ from + m = omega arith in
    let all : left + m + right ≡ n = omega arith in
    let parts : range_with_len low n ≡ (before ++ own) ++ later =
    ap (range_with_len low) (sym all)
    ∙ sym (ranges-join low (left + m) right)
    ∙ ap (λ x. range_with_len low (left + m) ++ range_with_len x right) second
    ∙ ap (λ xs. xs ++ later) (sym (ranges-join low left m) ∙ ap (λ x. before ++ range_with_len x m) first) in
    let sum : (ℕ → Bool) → List ℕ → ℕ = λ p xs. sum_by f (filter p xs) in
    let sums : (p : ℕ → Bool) → sum p (range_with_len low n) ≡ sum p before + sum p own + sum p later = λ p.
    (ap (λ xs. sum_by f (filter p xs)) parts
    ∙ ap (sum_by f) (filter-append p (before ++ own) later
    ∙ ap (λ xs. xs ++ filter p later) (filter-append p before own))
    ∙ sum_by-append f (filter p before ++ filter p own) (filter p later)
    ∙ ap (λ x. x + sum_by f (filter p later)) (sum_by-append f (filter p before) (filter p own))) in
    let same-before : filter new before ≡ filter old before =
    filter_agree_on new old low left (record { same = λ t a b. part.outside t (λ c d. omega arith) }) in
    let same-later : filter new later ≡ filter old later =
    filter_agree_on new old (from + m) right
    (record { same = λ t a b. part.outside t (λ c d. omega arith) }) in
    let none : filter old own ≡ [] =
    filter-none old own (All-range_with_len (λ t. old t ≡ false) from m (λ t a b. (part.inside t a b).0)) in
    let each : filter new own ≡ own =
    filter-all new own (All-range_with_len (λ t. new t ≡ true) from m (λ t a b. (part.inside t a b).1)) in
    let left-out = ap (sum_by f) none in
    let kept = ap (sum_by f) each in
    omega (arith, sums new, sums old, ap (sum_by f) same-before, ap (sum_by f) same-later, left-out, kept)

ones : {X : Type 0} (xs : List X) → sum_by (λ _. 1) xs ≡ length xs
ones [] = refl
ones (x ∷ xs) = omega (arith, ones xs, sum_by-cons (λ _. 1) x xs)

pub count_of_more : (old new : ℕ → Bool) (low n from m : ℕ) → PassesPart old new low n from m
    → count_by new (range_with_len low n) ≡ count_by old (range_with_len low n) + m
count_of_more old new low n from m part =
    let all : List ℕ = range_with_len low n in
    let sum = sum_of_more (λ _. 1) old new low n from m part in
    let kept = ones (filter new all) in
    let left = ones (filter old all) in
    let own = ones (range_with_len from m) in
    let count = length-range_with_len from m in
    omega (arith, sum, kept, left, own, count, length-filter new all, length-filter old all)
