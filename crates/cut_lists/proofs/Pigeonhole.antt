-- As many different numbers below n as n are all of them.
use Rattle.std.proofs.Common.{◌≡◌, ℕ, suc, ◌<◌, ◌≤◌, ◌==◌, true, cond, List, map, length, nat_lt}
use Rattle.std.proofs.Common.{sym, ◌∙◌, arith}
use Rattle.std.proofs.lemmas.Bool.{eqb-true, false_from_ne_true}
use Rattle.std.specs.List.{range_with_len, IsDistinct, Any}
use Rattle.std.proofs.lemmas.List.Folds.{Any-from_list_any}
use Rattle.std.proofs.lemmas.List.FromFn.{length-map-range_with_len, get_or-map-range_with_len}
use Rattle.std.proofs.lemmas.Map.Keys.{IsDistinct-from_apart}
use Rattle.std.proofs.lemmas.Map.Steps.{length-le_from_distinct_below}

-- a function's first n values are below m
abbrev pub Into : (ℕ → ℕ) → ℕ → ℕ → Type 0
Into f n m = (i : ℕ) → i < n → f i < m

-- and they are different
abbrev pub OneToOne : (ℕ → ℕ) → ℕ → Type 0
OneToOne f n = (i j : ℕ) → i < n → j < n → f i ≡ f j → i ≡ j

-- n different numbers below m are at most m
pub pigeonhole : (n m : ℕ) (f : ℕ → ℕ) → Into f n m → OneToOne f n → n ≤ m
pigeonhole n m f into one =
    let xs : List ℕ = map f (range_with_len 0 n) in
    let long : length xs ≡ n = length-map-range_with_len f 0 n in
    let distinct : IsDistinct ◌==◌ xs = IsDistinct-from_apart ◌==◌ xs (λ i j d early low. false_from_ne_true _ (λ t.
    let same : f i ≡ f j = sym (get_or-map-range_with_len f 0 n i i d (omega arith) (omega arith)) ∙ eqb-true _ _ t
    ∙ get_or-map-range_with_len f 0 n j j d (omega arith) (omega arith) in
    let index : i ≡ j = one i j (omega arith) (omega arith) same in
    omega arith)) in
    let few : length xs ≤ m = length-le_from_distinct_below xs m distinct (λ q among.
    let found : Any (λ x. (q == x) ≡ true) xs = Any-from_list_any (λ x. q == x) xs among in
    let at : q ≡ f found.0 = eqb-true _ _ found.4 ∙ sym found.3
    ∙ get_or-map-range_with_len f 0 n found.0 found.0 found.1 (omega (arith, found.2)) (omega arith) in
    let low : f found.0 < m = into found.0 (omega (arith, found.2)) in
    omega arith) in
    omega arith

-- f below n, and b at n
abbrev extended : (ℕ → ℕ) → ℕ → ℕ → ℕ → ℕ
extended f n b i = cond (nat_lt i n) (f i) b

-- n different numbers below n are all of them
pub none_missed : (n b : ℕ) (f : ℕ → ℕ) → b < n → Into f n n → OneToOne f n → ((p : ℕ) → p < n → f p ≡ b → ⊥) → ⊥
none_missed n b f low into one missed = grind (arith, pigeonhole (suc n) n (extended f n b))
