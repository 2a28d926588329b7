-- Bits, sums and marks of lanes of vectors of four.
use Rattle.std.proofs.Common.{◌≡◌, ◌∙◌, ℕ, ◌+◌, ◌/◌, ◌%◌, ◌^◌, ◌<◌, ◌≤◌, ◌||◌, ◌&&◌, Bool, true, false, cond, not, ltb}
use Rattle.std.proofs.Common.{eqb, nat_eq, sum, List, [], ◌∷◌, length, replicate, slice_index, Fits}
use Rattle.std.proofs.Common.{refl, ap, le-ltb, arith}
use Rattle.std.specs.Int.{w32}
use Rattle.std.specs.Simd.Lanes.{Each1, zip2, mask_l}
use Rattle.std.proofs.lemmas.List.{get_or-map, get_or-replicate}
use Rattle.std.proofs.lemmas.Simd.{Each1-get_or, tops_compared, get_or-zip2, bitmask_splat, bit_mask_l, mask_l-mod}
use Rattle.cut_arrivals.proofs.RanksChoices.{tops, compared_four}
use Rattle.cut_arrivals.proofs.BlocksLanes.{of_four}

-- ---- bits

pub bit_at : (xs : List ℕ) → length xs ≡ 4 → (i : ℕ) → i < 4
    → mask_l (tops eqb xs (replicate 4 1)) % 2 ^ 64 / 2 ^ i % 2 ≡ cond (eqb (slice_index xs i) 1) 1 0
bit_at xs four i low =
    grind (arith, bitmask_splat w32 eqb xs 4 1 four, bit_mask_l, get_or-map)

pub doubted : (b c : Bool) (m : ℕ) → eqb (cond b 1 (cond c m 0)) 1 ≡ b || (c && eqb m 1)
doubted true c m = refl
doubted false true m = refl
doubted false false m = refl

mask_is : (a b : List ℕ) → length a ≡ 4 → length b ≡ 4 → mask_l (tops ltb a b) % 2 ^ 64 ≡ mask_l (zip2 ltb a b)
mask_is a b la lb =
    grind (arith, tops_compared w32 ltb a b, mask_l-mod (zip2 ltb a b) 64, compared_four ltb a b la lb)

-- where no bit is set, no lane has risen
pub none_risen : (a b : List ℕ) → length a ≡ 4 → length b ≡ 4 → not (nat_eq (mask_l (tops ltb a b) % 2 ^ 64) 0) ≡ false
    → (i : ℕ) → i < 4 → slice_index b i ≤ slice_index a i
none_risen a b la lb clear i low =
    let ms : List Bool = zip2 ltb a b in
    grind (arith, mask_is a b la lb, bit_mask_l ms i, get_or-zip2 ltb a b i 0 0 false)

-- where a bit is set and no lane has fallen, the sum has risen
abbrev RisesWithSum : List ℕ → List ℕ → Type 0
RisesWithSum a b =
    ((i : ℕ) → i < 4 → slice_index a i ≤ slice_index b i) → sum b ≤ sum a → mask_l (zip2 ltb a b) ≡ 0

sum_risen : (a b : List ℕ) → length a ≡ 4 → length b ≡ 4 → RisesWithSum a b
sum_risen a b la lb =
    of_four (λ a. RisesWithSum a b) (λ a0 a1 a2 a3.
    of_four (RisesWithSum (a0 ∷ a1 ∷ a2 ∷ a3 ∷ [])) (λ b0 b1 b2 b3 rises lower.
    let r0 : a0 ≤ b0 = rises 0 (omega arith) in
    let r1 : a1 ≤ b1 = rises 1 (omega arith) in
    let r2 : a2 ≤ b2 = rises 2 (omega arith) in
    let r3 : a3 ≤ b3 = rises 3 (omega arith) in
    let total : 0 + b0 + b1 + b2 + b3 ≤ 0 + a0 + a1 + a2 + a3 = lower in
    rw (
      le-ltb a0 b0 (omega (arith, r0, r1, r2, r3, total)),
      le-ltb a1 b1 (omega (arith, r0, r1, r2, r3, total)),
      le-ltb a2 b2 (omega (arith, r0, r1, r2, r3, total)),
      le-ltb a3 b3 (omega (arith, r0, r1, r2, r3, total)),
    ) refl) b lb) a la

pub some_risen : (a b : List ℕ) → length a ≡ 4 → length b ≡ 4 → not (nat_eq (mask_l (tops ltb a b) % 2 ^ 64) 0) ≡ true
    → ((i : ℕ) → i < 4 → slice_index a i ≤ slice_index b i) → sum a < sum b
some_risen a b la lb set rises = grind (arith, mask_is, sum_risen)

-- ---- sums and marks

pub plus_one_at : (a : List ℕ) → length a ≡ 4 → ((i : ℕ) → i < 4 → slice_index a i ≤ 2 ^ 31) → (i : ℕ) → i < 4
    → slice_index (zip2 (λ x y. (x + y) % 2 ^ 32) a (replicate 4 1)) i ≡ slice_index a i + 1
plus_one_at a four small i low =
    get_or-zip2 (λ x y. (x + y) % 2 ^ 32) a (replicate 4 1) i 0 0 0 (omega (arith, four, low))
    (let long : length (replicate {A = ℕ} 4 1) ≡ 4 = refl in omega (arith, long, low))
    ∙ ap (λ y. (slice_index a i + y) % 2 ^ 32) (get_or-replicate 4 i 1 0 low)
    ∙ (let fits : (slice_index a i + 1) % 2 ^ 32 ≡ slice_index a i + 1 = omega (arith, small i low) in fits)

pub mark_or : (b c : Bool) → cond {A = ℕ} b 1 (cond c 1 0) ≡ cond (c || (b || false)) 1 0
mark_or true true = refl
mark_or true false = refl
mark_or false true = refl
mark_or false false = refl

-- four numbers of 32 bits add up to less than 2^34
pub sum_below : (a : List ℕ) → length a ≡ 4 → Each1 (Fits w32) a → sum a < 2 ^ 34
sum_below a four fits =
    let each : (i : ℕ) → i < 4 → slice_index a i < 2 ^ 32 =
    λ i low. (Each1-get_or (Fits w32) a i 0 (omega (arith, four, low)) fits).fits in
    of_four (λ a. ((i : ℕ) → i < 4 → slice_index a i < 2 ^ 32) → sum a < 2 ^ 34) (λ a0 a1 a2 a3 each.
    let r0 : a0 < 2 ^ 32 = each 0 (omega arith) in
    let r1 : a1 < 2 ^ 32 = each 1 (omega arith) in
    let r2 : a2 < 2 ^ 32 = each 2 (omega arith) in
    let r3 : a3 < 2 ^ 32 = each 3 (omega arith) in
    let total : 0 + a0 + a1 + a2 + a3 < 2 ^ 34 = omega (arith, r0, r1, r2, r3) in
    total) a four each
