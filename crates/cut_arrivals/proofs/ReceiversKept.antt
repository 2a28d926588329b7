-- A filter of one element more.
use Rattle.std.proofs.Common.{◌≡◌, ◌∙◌, ℕ, ◌+◌, ◌<◌, Bool, true, false, cond, List, [], ◌∷◌, ◌++◌, length, take, filter}
use Rattle.std.proofs.Common.{slice_index, ap, sym}
use Rattle.std.proofs.lemmas.List.{take_more, append-nil}

first_of : (x : ℕ) (c : Bool) (all prefix rest : List ℕ) → all ≡ prefix ++ rest
    → cond c (x ∷ all) all ≡ cond c (x ∷ prefix) prefix ++ rest
first_of x true all prefix rest is = ap (λ (ys : List ℕ). x ∷ ys) is
first_of x false all prefix rest is = is

filter_append : (p : ℕ → Bool) (xs : List ℕ) (y : ℕ) (b : Bool) → p y ≡ b
    → filter p (xs ++ y ∷ []) ≡ filter p xs ++ cond b (y ∷ []) []
filter_append p [] y b is = ap (λ c. cond c (y ∷ []) []) is
filter_append p (x ∷ xs) y b is = first_of x (p x) (filter p (xs ++ y ∷ [])) (filter p xs) (cond b (y ∷ []) [])
    (filter_append p xs y b is)

pub filter_kept_next : (p : ℕ → Bool) (xs : List ℕ) (n y : ℕ) → n < length xs → y ≡ slice_index xs n
    → p (slice_index xs n) ≡ true
    → filter p (take n xs) ++ y ∷ [] ≡ filter p (take (n + 1) xs)
filter_kept_next p xs n y low is kept =
    ap (λ (z : ℕ). filter p (take n xs) ++ z ∷ []) is
    ∙ sym (ap (λ (ys : List ℕ). filter p ys) (take_more xs n 0 low)
    ∙ filter_append p (take n xs) (slice_index xs n) true kept)

pub filter_left_next : (p : ℕ → Bool) (xs : List ℕ) (n : ℕ) → n < length xs → p (slice_index xs n) ≡ false
    → filter p (take n xs) ≡ filter p (take (n + 1) xs)
filter_left_next p xs n low left =
    sym (ap (λ (ys : List ℕ). filter p ys) (take_more xs n 0 low)
    ∙ filter_append p (take n xs) (slice_index xs n) false left ∙ append-nil _)
