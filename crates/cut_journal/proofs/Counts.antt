-- Lists by their places: how far a test passes, and lists with the same beginning.
use Rattle.std.proofs.Common.{◌≡◌, ◌∙◌, ◌≤◌, ◌<◌, ℕ, zero, suc, List, [], ◌∷◌, length, take, drop, map, get_or}
use Rattle.std.proofs.Common.{slice_range, refl, sym, ap, arith}
use Rattle.std.specs.List.{range_with_len}
use Rattle.std.proofs.lemmas.List.{get_or-take}
use Rattle.std.proofs.lemmas.Slice.{between_is}
use Rattle.std.proofs.Math.Seq.{take-take}
use Rattle.cut_lists.proofs.Intervals.{map_agree}

-- functions that give the same up to a number
pub map_alike : {X : Type 0} (f g : ℕ → X) (n : ℕ) → ((i : ℕ) → i < n → f i ≡ g i) → map f (range_with_len 0 n)
    ≡ map g (range_with_len 0 n)
map_alike f g n alike = map_agree f g 0 n (λ i low high. alike i (omega arith))

-- ---- lists that begin alike

pub alike_place : (m i : ℕ) (xs ys : List ℕ) → take m xs ≡ take m ys → i < m → get_or xs i 0 ≡ get_or ys i 0
alike_place m i xs ys alike low = sym (get_or-take m xs i 0 low) ∙ ap (λ l. get_or l i 0) alike
    ∙ get_or-take m ys i 0 low

pub alike_prefix : (m k : ℕ) (xs ys : List ℕ) → take m xs ≡ take m ys → k ≤ m → take k xs ≡ take k ys
alike_prefix m k xs ys alike low = sym (take-take k m xs low) ∙ ap (take k) alike ∙ take-take k m ys low

pub alike_part : (m a b : ℕ) (xs ys : List ℕ) → take m xs ≡ take m ys → b ≤ m → slice_range xs a b ≡ slice_range ys a b
alike_part m a b xs ys alike low = between_is xs a b ∙ ap (drop a) (alike_prefix m b xs ys alike low)
    ∙ sym (between_is ys a b)

-- lists that are equal at each place
pub alike_at : (m : ℕ) (xs ys : List ℕ) → m ≤ length xs → m ≤ length ys
    → ((i : ℕ) → i < m → get_or xs i 0 ≡ get_or ys i 0) → take m xs ≡ take m ys
alike_at zero xs ys long other same = refl
alike_at (suc m) [] ys long other same = absurd (omega arith)
alike_at (suc m) (x ∷ xs) [] long other same = absurd (omega arith)
alike_at (suc m) (x ∷ xs) (y ∷ ys) long other same =
    ap (λ (z : ℕ). z ∷ take m xs) (same 0 (omega arith))
    ∙ ap (λ (l : List ℕ). y ∷ l) (alike_at m xs ys (omega arith) (omega arith) (λ i low. same (suc i) (omega arith)))
