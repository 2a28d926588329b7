-- Eight vectors.
use Rattle.std.proofs.Common.{◌≡◌, ℕ, List, [], ◌∷◌, map, min, cond, ltb, refl, arith}
use Rattle.std.specs.Simd.Lanes.{zip2, sel_l}
use Rattle.std.proofs.lemmas.Simd.{map-map}
use Rattle.cut_arrivals.specs.blocks.Images.{eight}

pub eight_from : (f : ℕ → ℕ → ℕ) (rows a b c d e g h i : List ℕ)
    → a ≡ map (λ x. f 0 x) rows → b ≡ map (λ x. f 1 x) rows → c ≡ map (λ x. f 2 x) rows → d ≡ map (λ x. f 3 x) rows
    → e ≡ map (λ x. f 4 x) rows → g ≡ map (λ x. f 5 x) rows → h ≡ map (λ x. f 6 x) rows → i ≡ map (λ x. f 7 x) rows
    → a ∷ b ∷ c ∷ d ∷ e ∷ g ∷ h ∷ i ∷ [] ≡ eight f rows
eight_from f rows a b c d e g h i pa pb pc pd pe pg ph pi = rw (pa, pb, pc, pd, pe, pg, ph, pi) refl

-- of moved rows
pub eight_moved : (f : ℕ → ℕ → ℕ) (g : ℕ → ℕ) (rows : List ℕ) → eight f (map g rows) ≡ eight (λ q row. f q (g row)) rows
eight_moved f g rows =
    search (arith, map-map)

-- ---- the lesser of two

min_is : (x y : ℕ) → cond (ltb x y) x y ≡ min x y
min_is x y = grind arith

pub chosen : (xs ys : List ℕ) → sel_l (zip2 ltb xs ys) xs ys ≡ zip2 min xs ys
chosen [] ys = refl
chosen (x ∷ xs) [] = refl
chosen (x ∷ xs) (y ∷ ys) = rw (min_is x y, chosen xs ys) refl
