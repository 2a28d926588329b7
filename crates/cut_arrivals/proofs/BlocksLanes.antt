-- Lanes of vectors of four.
use Rattle.std.proofs.Common.{◌≡◌, ℕ, zero, suc, ◌*◌, ◌-◌, ◌/◌, ◌%◌, ◌^◌, ◌<◌, List, [], ◌∷◌, length, map, slice_index}
use Rattle.std.proofs.Common.{bit_or, bit_xor, refl, arith}
use Rattle.std.specs.Simd.Lanes.{zip2}
use Rattle.rand_chacha.specs.Block.{xor_rotate}

-- what holds of each of four lanes
pub each_lane : (P : ℕ → Type 0) → P 0 → P 1 → P 2 → P 3 → (j : ℕ) → j < 4 → P j
each_lane P a b c d zero low = a
each_lane P a b c d (suc zero) low = b
each_lane P a b c d (suc (suc zero)) low = c
each_lane P a b c d (suc (suc (suc zero))) low = d
each_lane P a b c d (suc (suc (suc (suc more)))) low = absurd (omega (arith, low))

-- what holds of every list of four numbers
pub of_four : (P : List ℕ → Type 0) → ((a b c d : ℕ) → P (a ∷ b ∷ c ∷ d ∷ [])) → (xs : List ℕ) → length xs ≡ 4 → P xs
of_four P holds (a ∷ b ∷ c ∷ d ∷ []) is = holds a b c d
of_four P holds [] is = absurd (omega (arith, is))
of_four P holds (a ∷ []) is = absurd (omega (arith, is))
of_four P holds (a ∷ b ∷ []) is = absurd (omega (arith, is))
of_four P holds (a ∷ b ∷ c ∷ []) is = absurd (omega (arith, is))
of_four P holds (a ∷ b ∷ c ∷ d ∷ e ∷ xs) is = absurd (omega (arith, is))

-- two shifts, and what they leave joined, turn a lane
abbrev pub Turns : ℕ → List ℕ → List ℕ → Type 0
Turns bits a b =
    (j : ℕ) → j < 4
    → slice_index (zip2 bit_or
    (zip2 (λ x n. x * 2 ^ n % 2 ^ 32) (zip2 bit_xor a b) (bits ∷ bits ∷ bits ∷ bits ∷ []))
    (zip2 (λ x n. x / 2 ^ n) (zip2 bit_xor a b) ((32 - bits) ∷ (32 - bits) ∷ (32 - bits) ∷ (32 - bits) ∷ []))) j
    ≡ xor_rotate (slice_index a j) (slice_index b j) bits

pub shifts_turn : (bits : ℕ) → 0 < bits → bits < 32 → (a : List ℕ) → length a ≡ 4 → (b : List ℕ) → length b ≡ 4
    → Turns bits a b
shifts_turn bits some few =
    let left : bits % 32 ≡ bits = omega (arith, few) in
    let right : (32 - bits) % 32 ≡ 32 - bits = omega (arith, some) in
    of_four (λ a. (b : List ℕ) → length b ≡ 4 → Turns bits a b) (λ a0 a1 a2 a3.
    of_four (Turns bits (a0 ∷ a1 ∷ a2 ∷ a3 ∷ [])) (λ b0 b1 b2 b3.
    each_lane _ (rw (left, right) refl) (rw (left, right) refl) (rw (left, right) refl) (rw (left, right) refl)))

-- a vector whose lanes are what a function makes of those of another
pub lanes_are : (f : ℕ → ℕ) (xs : List ℕ) → length xs ≡ 4 → (ys : List ℕ) → length ys ≡ 4
    → ((j : ℕ) → j < 4 → slice_index xs j ≡ f (slice_index ys j)) → xs ≡ map f ys
lanes_are f =
    of_four (λ xs. (ys : List ℕ) → length ys ≡ 4 → ((j : ℕ) → j < 4 → slice_index xs j ≡ f (slice_index ys j)) → xs
    ≡ map f ys) (λ a0 a1 a2 a3.
    of_four (λ ys. ((j : ℕ) → j < 4 → slice_index (a0 ∷ a1 ∷ a2 ∷ a3 ∷ []) j ≡ f (slice_index ys j)) → a0 ∷ a1 ∷ a2 ∷ a3
    ∷ [] ≡ map f ys) (λ b0 b1 b2 b3 are.
    rw (← are 0 (omega arith), ← are 1 (omega arith), ← are 2 (omega arith), ← are 3 (omega arith)) refl))
