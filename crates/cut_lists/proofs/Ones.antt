-- The ones of a mask are counted place by place.
use Rattle.std.proofs.Common.{◌≡◌, ℕ, zero, suc, ◌^◌, ◌<◌, Bool, false, cond, ◌==◌, List, map, length, refl, ap, sym}
use Rattle.std.proofs.Common.{◌∙◌, arith}
use Rattle.std.specs.List.{range_with_len, count_by}
use Rattle.std.specs.Int.{bit_at}
use Rattle.std.specs.Simd.Lanes.{mask_l}
use Rattle.std.specs.Int.RustNames.{count_ones}
use Rattle.std.proofs.lemmas.Nat.Bits.{bit_at-lt, same_from_bits_below}
use Rattle.std.proofs.lemmas.Simd.{mask_l-lt, bit_mask_l, ones-mask_l}
use Rattle.std.proofs.lemmas.List.FromFn.{length-map-range_with_len, get_or-map-range_with_len}

-- where a bit is or is not set in addition
one_bit : (b : ℕ) → b < 2 → cond (b == 1) 1 0 ≡ b
one_bit zero low = refl
one_bit (suc zero) low = refl
one_bit (suc (suc b)) low = absurd (omega arith)

-- a mask below 2^k has as many ones as there are places below k whose bit is set
pub count_by-ones : (k mask : ℕ) → mask < 2 ^ k → count_by (λ i. bit_at mask i == 1) (range_with_len 0 k)
    ≡ count_ones mask
count_by-ones k mask low =
    let bits : List Bool = map (λ i. bit_at mask i == 1) (range_with_len 0 k) in
    let long : length bits ≡ k = length-map-range_with_len (λ i. bit_at mask i == 1) 0 k in
    let high : mask_l bits < 2 ^ k = (let w = mask_l-lt bits in rw long at w) in
    let same : mask_l bits ≡ mask = same_from_bits_below k (mask_l bits) mask high low (λ i below.
    bit_mask_l bits i
    ∙ ap (λ b. cond b 1 0) (get_or-map-range_with_len (λ i. bit_at mask i == 1) 0 k i i false below (omega arith))
    ∙ one_bit (bit_at mask i) (bit_at-lt mask i)) in
    sym (ones-mask_l (λ i. bit_at mask i == 1) (range_with_len 0 k)) ∙ ap count_ones same
