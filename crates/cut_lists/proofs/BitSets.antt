-- A list of masks as a set of pairs of a place and an index: a bit of the mask at the index is set.
use Rattle.std.proofs.Common.{◌≡◌, ℕ, ◌*◌, ◌%◌, ◌^◌, ◌<◌, ◌≤◌, Bool, false, cond, ◌==◌, ◌&&◌, ◌||◌}
use Rattle.std.proofs.Common.{IsTrue, List, length, get_or, replicate, ap, sym, ◌∙◌, arith, get_or-set_other}
use Rattle.std.proofs.Common.{set}
use Rattle.std.specs.List.{list_any, count_by, range_with_len, All}
use Rattle.std.specs.Int.{bit_at}
use Rattle.std.specs.Int.Bits.{bit_or}
use Rattle.std.proofs.Math.Pow.{pow-lt}
use Rattle.std.proofs.lemmas.Grind.{get_or-set_at}
use Rattle.std.proofs.lemmas.List.{ext_get_or, get_or-replicate, get_or_past, length-replicate}
use Rattle.std.proofs.lemmas.List.Elements.{All-set}
use Rattle.std.proofs.lemmas.Nat.{or_lt, zero_from_ones}
use Rattle.std.proofs.lemmas.Nat.Bits.{bit_at_or, bit_at-pow_same, bit_at-pow_other, bit_at-zero}
use Rattle.cut_lists.proofs.Ones.{count_by-ones}

-- the set that masks are
abbrev pub has_bit : List ℕ → ℕ → ℕ → Bool
has_bit masks b i = bit_at (get_or masks i 0) b == 1

-- the masks with one pair more
abbrev pub with_bit : List ℕ → ℕ → ℕ → List ℕ
with_bit masks b i = set masks i (bit_or (get_or masks i 0) (2 ^ b))

-- how many places below k an index has
abbrev pub places_of : ℕ → List ℕ → ℕ → ℕ
places_of k masks i = count_by (λ b. has_bit masks b i) (range_with_len 0 k)

-- a written bit stays below
pub below-with_bit : (k : ℕ) (masks : List ℕ) (b i : ℕ) → b < k → i < length masks → All (λ mask. mask < 2 ^ k) masks
    → All (λ mask. mask < 2 ^ k) (with_bit masks b i)
below-with_bit k masks b i low inside below =
    All-set (λ mask. mask < 2 ^ k) masks i _ (or_lt k (get_or masks i 0) (2 ^ b) (below i 0 inside) (pow-lt low)) below

-- masks with one pair more have that pair too, and no other
pub has_bit-with_bit : (masks : List ℕ) (b i : ℕ) → i < length masks → (c j : ℕ)
    → has_bit (with_bit masks b i) c j ≡ (has_bit masks c j || ((b == c) && (i == j)))
has_bit-with_bit masks b i inside c j =
    grind (arith, get_or-set_at, bit_at_or, bit_at-pow_same, bit_at-pow_other, get_or-set_other)

-- what `1 << b` computes
pub shifted_one : (b k : ℕ) → b < k → k ≤ 32 → 1 * 2 ^ b % 4294967296 ≡ 2 ^ b
shifted_one b k low few =
    grind (arith, pow-lt)

-- ---- masks that are 0

pub get_or-zeros : (n i : ℕ) → ◌≡◌ {A = ℕ} (get_or (replicate n 0) i 0) 0
get_or-zeros n i = grind (arith, get_or-replicate, get_or_past, length-replicate)

pub has_bit-zeros : (n b i : ℕ) → has_bit (replicate n 0) b i ≡ false
has_bit-zeros n b i = ap (λ m. bit_at m b == 1) (get_or-zeros n i) ∙ ap (λ d. d == 1) (bit_at-zero b)

-- a mask with no place is 0
pub mask-zero : (k : ℕ) (masks : List ℕ) (i : ℕ) → All (λ mask. mask < 2 ^ k) masks → places_of k masks i ≡ 0
    → get_or masks i 0 ≡ 0
mask-zero k masks i below none =
    grind (arith, zero_from_ones (get_or masks i 0), count_by-ones k (get_or masks i 0), get_or_past masks i 0)

-- what is left of masks where those at some indices are made 0, which all pairs have
pub cleared : (k : ℕ) (masks news : List ℕ) (indices : List ℕ) → All (λ mask. mask < 2 ^ k) masks → length news
    ≡ length masks
    → ((i : ℕ) → 0 < places_of k masks i → IsTrue (list_any (λ p. i == p) indices))
    → ((i : ℕ) → get_or news i 0 ≡ cond (list_any (λ p. i == p) indices) 0 (get_or masks i 0))
    → news ≡ replicate (length masks) 0
cleared k masks news indices below long alone left =
    ext_get_or 0 news (replicate (length masks) 0) (long ∙ sym (length-replicate (length masks) 0)) (λ i inside.
    left i ∙ zero i ∙ sym (get_or-replicate (length masks) i 0 0 (omega arith)))
  where
    zero : (i : ℕ) → cond (list_any (λ p. i == p) indices) 0 (get_or masks i 0) ≡ 0
    zero i = grind (arith, mask-zero)
