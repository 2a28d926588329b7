-- Bits at places of words.
use Rattle.std.proofs.Common.{◌≡◌, ◌∙◌, ◌≢◌, ℕ, ◌*◌, ◌/◌, ◌%◌, ◌^◌, ◌<◌, ◌≤◌, ◌==◌, Bool, true, false, List, length}
use Rattle.std.proofs.Common.{get_or, set, replicate, slice_get, bit_or, w64, Some, None, inl, inr, sym, ap, arith}
use Rattle.std.proofs.lemmas.Bool.{cases_eq}
use Rattle.std.proofs.lemmas.List.{ext_get_or, get_or-replicate, get_or_past, get_or-set_same, get_or-set_other}
use Rattle.std.proofs.lemmas.List.{length-replicate, length-set}
use Rattle.std.proofs.lemmas.List.FromFn.{get_or-map-range_with_len, length-map-range_with_len}
use Rattle.std.proofs.lemmas.Nat.Bits.{bit_at_set_same, bit_at_set_other}
use Rattle.std.proofs.lemmas.Option.{slice_get-get_or, slice_get_past}
use Rattle.std.specs.Int.{bit_at}
use Rattle.cut_sets.specs.bits.inside.Bits.{is_set, bits_of}

pub long : (words : List ℕ) (len : ℕ) → length (bits_of words len) ≡ len
long words len = length-map-range_with_len (is_set words) 0 len

-- ---- reads

read : (words : List ℕ) (len place : ℕ) (d : Bool) → place < len → get_or (bits_of words len) place d
    ≡ is_set words place
read words len place d low = get_or-map-range_with_len (is_set words) 0 len place place d low (omega arith)

pub found : (words : List ℕ) (len place : ℕ) → place < len → slice_get (bits_of words len) place
    ≡ Some (is_set words place)
found words len place low =
    slice_get-get_or (bits_of words len) place false (omega (arith, long words len))
    ∙ ap Some (read words len place false low)

pub past : (words : List ℕ) (len place : ℕ) → len ≤ place → slice_get (bits_of words len) place ≡ None
past words len place high = slice_get_past (bits_of words len) place (omega (arith, long words len))

-- ---- no bit is set

zero_word : (n at : ℕ) → get_or (replicate {A = ℕ} n 0) at 0 ≡ 0
zero_word n at = grind (arith, get_or-replicate, get_or_past, length-replicate)

pub none_set : (n len : ℕ) → bits_of (replicate {A = ℕ} n 0) len ≡ replicate len false
none_set n len =
    grind (arith, ext_get_or false, long, length-replicate, read, zero_word n, get_or-replicate)

-- ---- one bit more is set

module _ (words : List ℕ) (len place : ℕ) (low : place < len) (room : len ≤ length words * 64) where
  abbrev pub word : ℕ
  word = bit_or (get_or words (place / 64) 0) (1 * 2 ^ (place % 64) % 2 ^ 64)

  there : place / 64 < length words
  there = omega (arith)

  set_here : is_set (set words (place / 64) word) place ≡ true
  set_here =
      ap (λ (w : ℕ). bit_at w (place % 64) == 1) (get_or-set_same words (place / 64) word 0 there)
      ∙ ap (λ (b : ℕ). b == 1) (bit_at_set_same w64 (get_or words (place / 64) 0) (place % 64) (omega arith))

  kept : (i : ℕ) → i ≢ place → is_set (set words (place / 64) word) i ≡ is_set words i
  kept i other = elim (cases_eq (i / 64) (place / 64)) [
    | inl same ↦ ap (λ (a : ℕ). bit_at (get_or (set words (place / 64) word) a 0) (i % 64) == 1) same
        ∙ ap (λ (w : ℕ). bit_at w (i % 64) == 1) (get_or-set_same words (place / 64) word 0 there)
        ∙ ap (λ (b : ℕ). b == 1) (bit_at_set_other w64 (get_or words (place / 64) 0) (place % 64) (omega arith) (i % 64)
        (λ e. other (omega arith)))
        ∙ ap (λ (a : ℕ). bit_at (get_or words a 0) (i % 64) == 1) (sym same)
    | inr apart ↦ ap (λ (w : ℕ). bit_at w (i % 64) == 1) (get_or-set_other words (place / 64) (i / 64) word 0 apart)
  ]

  pub one_more_set : bits_of (set words (place / 64) word) len ≡ set (bits_of words len) place true
  one_more_set =
      let now : List ℕ = set words (place / 64) word in
      ext_get_or false (bits_of now len) (set (bits_of words len) place true)
      (long now len ∙ sym (length-set (bits_of words len) place true ∙ long words len)) (λ i below.
      let inside : i < len = omega (arith, below, long now len) in
      read now len i false inside ∙ elim (cases_eq i place) [
        | inl same ↦ ap (is_set now) same ∙ set_here
            ∙ sym (ap (λ (a : ℕ). get_or (set (bits_of words len) place true) a false) same
            ∙ get_or-set_same (bits_of words len) place true false (omega (arith, long words len)))
        | inr other ↦ kept i other ∙ sym (get_or-set_other (bits_of words len) place i true false other
            ∙ read words len i false inside)
      ])
