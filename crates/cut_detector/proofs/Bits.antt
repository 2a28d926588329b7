-- A mask as the set of its bits.
use Rattle.std.proofs.Common.{◌≡◌, ℕ, ◌*◌, ◌%◌, ◌^◌, ◌<◌, ◌||◌, List, length, get_or, replicate, ap, sym, subst, ◌∙◌}
use Rattle.std.proofs.Common.{arith, pow_pos, vec_len, set}
use Rattle.cut_detector.proofs.Words.{All, Edge, Masks, count_by-ones, edges_in, is_edge, ring_count, with_edge}
use Rattle.std.specs.Int.Bits.{bit_or}
use Rattle.std.specs.Int.RustNames.{count_ones}
use Rattle.std.proofs.lemmas.List.{get_or_read}
use Rattle.std.proofs.lemmas.List.Elements.{All-replicate}
use Rattle.cut_lists.proofs.BitSets.{below-with_bit, has_bit-with_bit, shifted_one}

-- masks with one edge more have that edge too, and no other
pub edges_in-with_edge : (masks : List ℕ) (edge : Edge) → edge.subject < length masks → (ring s : ℕ)
    → edges_in (with_edge masks edge) ring s ≡ (edges_in masks ring s || is_edge ring s edge)
edges_in-with_edge masks edge inside ring s = has_bit-with_bit masks edge.ring edge.subject inside ring s

-- a mask that the code reads
pub mask-read : (m : Masks) (s i mask : ℕ) → s < vec_len m.masks → i ≡ s → mask ≡ get_or m.masks.items i mask → mask
    ≡ get_or m.masks.items s 0
mask-read m s i mask inside at read = get_or_read m.masks.items _ _ (omega (arith, m.masks.ok.0)) read 0
    ∙ ap (λ j. get_or m.masks.items j 0) at

-- and writes with one edge more
pub written : (m : Masks) (edge : Edge) (i mask : ℕ) → edge.ring < m.k → i ≡ edge.subject → mask
    ≡ get_or m.masks.items edge.subject 0
    → set m.masks.items i (bit_or mask (1 * 2 ^ edge.ring % 4294967296)) ≡ with_edge m.masks.items edge
written m edge i mask ring at read =
    grind (arith, shifted_one)

pub below-written : (m : Masks) (edge : Edge) (i mask : ℕ) → edge.ring < m.k → edge.subject < vec_len m.masks → i
    ≡ edge.subject → mask ≡ get_or m.masks.items edge.subject 0
    → All (λ mask. mask < 2 ^ m.k) (set m.masks.items i (bit_or mask (1 * 2 ^ edge.ring % 4294967296)))
below-written m edge i mask ring inside at read =
    grind (arith, written, below-with_bit)

-- the ones of a mask are its process's rings
pub ones-are : (k s : ℕ) (masks : List ℕ) → All (λ mask. mask < 2 ^ k) masks → s < length masks
    → count_ones (get_or masks s 0) ≡ ring_count k (edges_in masks) s
ones-are k s masks below inside = sym (count_by-ones k _ (below s 0 inside))

pub below_replicate : (k n : ℕ) (masks : List ℕ) → masks ≡ replicate n 0 → All (λ mask. mask < 2 ^ k) masks
below_replicate k n masks e =
    let P : List ℕ → Type 0 = All (λ mask. mask < 2 ^ k) in
    subst P (sym e) (All-replicate (λ mask. mask < 2 ^ k) n 0 (pow_pos k))
