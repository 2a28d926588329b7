-- The piece of a number, found by the gap that it is of.
use Rattle.std.proofs.Common.{◌≡◌, ◌∙◌, ℕ, zero, suc, ◌+◌, ◌-◌, ◌≤◌, ◌<◌, List, [], ◌∷◌, ◌++◌, take, length}
use Rattle.std.proofs.Common.{get_or, slice_get, Some, None, sym, ap, subst, arith, length-append}
use Rattle.std.proofs.lemmas.Grind.{flat_map-append, take_at_read}
use Rattle.std.proofs.lemmas.List.{map-append, take_all, take-append-le, get_or-map, get_or_push, get_or_append_left}
use Rattle.std.proofs.lemmas.List.{length-map}
use Rattle.std.proofs.lemmas.List.Concat.{get_or-flat_map}
use Rattle.std.proofs.lemmas.List.Folds.{length-flat_map-take}
use Rattle.std.proofs.lemmas.List.FromFn.{get_or-map-range_with_len, length-map-range_with_len}
use Rattle.std.proofs.lemmas.Option.{slice_get-get_or, slice_get_past}
use Rattle.cut_ledger.specs.declared.division.Stretch.{Stretch}
use Rattle.cut_ledger.specs.inside.DivisionInside.{ArePiecesCounted, HasNumber, gaps_in, piece_of, pieces_up_to}
use Rattle.cut_ledger.proofs.Words.{IsNonDecreasingBy, IsPartitionPoint, Piece, div_ceil, flat_map, part_of, parts_of}

abbrev pub no_piece : Piece
no_piece = record { first = 0; count = 0 }

abbrev pub no_stretch : Stretch
no_stretch = record { gap = no_piece; end = 0 }

abbrev pub all_pieces : ℕ → List Stretch → List Piece
all_pieces size ss = flat_map (parts_of size) (gaps_in ss)

parts_long : (size : ℕ) (p : Piece) → length (parts_of size p) ≡ div_ceil p.count size
parts_long size p = length-map-range_with_len (part_of size p) 0 (div_ceil p.count size)

-- ---- gaps one after another

-- the pieces of one gap more
pub one_gap : (size : ℕ) (gaps : List Piece) (i : ℕ) (d : Piece) → i < length gaps
    → length (flat_map (parts_of size) (take (i + 1) gaps)) ≡ length (flat_map (parts_of size) (take i gaps))
    + div_ceil (get_or gaps i d).count size
one_gap size gaps i d low =
    grind (arith, take_at_read, flat_map-append, length-append, parts_long)

pub few_before : (size : ℕ) (gaps : List Piece) (i : ℕ) (d : Piece) → i < length gaps
    → length (flat_map (parts_of size) (take i gaps)) + div_ceil (get_or gaps i d).count size
    ≤ length (flat_map (parts_of size) gaps)
few_before size gaps i d low =
    omega (arith, length-flat_map-take (parts_of size) gaps i d low, parts_long size (get_or gaps i d))

-- what stands before a stretch that is added is as it was
before_it : (size : ℕ) (ss : List Stretch) (s : Stretch) (n : ℕ) → n ≤ length ss → pieces_up_to size (ss ++ s ∷ []) n
    ≡ pieces_up_to size ss n
before_it size ss s n low =
    grind (arith, map-append, take-append-le, length-map)

pub counted_push : (size : ℕ) (ss : List Stretch) (s : Stretch) → ArePiecesCounted size ss → s.end
    ≡ length (pieces_up_to size (ss ++ s ∷ []) (length ss + 1)) → ArePiecesCounted size (ss ++ s ∷ [])
counted_push size ss s are end i d low = grind (arith, get_or_append_left, before_it, length-append, get_or_push)

-- ---- the gap of a number

-- a gap has the piece of a number, and which one it is
pub record IsFound (size : ℕ) (ss : List Stretch) (number : ℕ) (s : Stretch) : Type 0 where
  pub has : HasNumber size s number
  pub is : slice_get (all_pieces size ss) number ≡ Some (piece_of size s number)

abbrev pub IsSplit : List Stretch → ℕ → ℕ → Type 0
IsSplit ss number at = IsPartitionPoint (λ (s : Stretch). s.end ≤ number) (λ s. number < s.end) ss at

module _ (size : ℕ) (ss : List Stretch) (are : ArePiecesCounted size ss) where
  gaps_long : length (gaps_in ss) ≡ length ss
  gaps_long = length-map ss (λ (s : Stretch). s.gap)

  gap_at : (i : ℕ) (d : Stretch) → i < length ss → get_or (gaps_in ss) i no_piece ≡ (get_or ss i d).gap
  gap_at i d low = get_or-map (λ (s : Stretch). s.gap) ss i d no_piece low

  rises_by_parts : (i : ℕ) (d : Stretch) → i < length ss → (get_or ss i d).end ≡ length (pieces_up_to size ss i)
      + div_ceil (get_or ss i d).gap.count size
  rises_by_parts i d low = grind (arith, gaps_long, are i d low, gap_at i d low, one_gap size (gaps_in ss) i no_piece)

  rises_to : (i j k : ℕ) (d : Stretch) → j ≡ i + k → j < length ss → (get_or ss i d).end ≤ (get_or ss j d).end
  rises_to i j zero d e low = subst (λ (n : ℕ). (get_or ss i d).end ≤ (get_or ss n d).end)
      (let same : i ≡ j = omega arith in same) (omega arith)
  rises_to i j (suc k) d e low =
      let m : ℕ = j - 1 in
      let back : m + 1 ≡ j = omega arith in
      let first = rises_to i m k d (omega arith) (omega arith) in
      rw (← back) (omega (arith, first, are m d (omega arith), rises_by_parts (m + 1) d (omega arith)))

  pub ends_rise : IsNonDecreasingBy (λ (s : Stretch). s.end) ss
  ends_rise i j d le low = rises_to i j (j - i) d (omega arith) low

  all_of_them : pieces_up_to size ss (length ss) ≡ all_pieces size ss
  all_of_them = ap (flat_map (parts_of size)) (take_all (length ss) (gaps_in ss) (omega (arith, gaps_long)))

  pub last_end : (d : Stretch) (n : ℕ) → n + 1 ≡ length ss → (get_or ss n d).end ≡ length (all_pieces size ss)
  last_end d n e = are n d (omega arith) ∙ ap (λ m. length (pieces_up_to size ss m)) e ∙ ap length all_of_them

  -- the pieces of the gaps before the one that is found come before it
  passed : (number at : ℕ) → IsSplit ss number at → at ≤ length ss → length (pieces_up_to size ss at) ≤ number
  passed number zero split low = omega arith
  passed number (suc at) split low =
      let before = split.0 at no_stretch (omega arith) (omega arith) in
      let same : suc at ≡ at + 1 = omega arith in
      rw same (omega (arith, before, are at no_stretch (omega arith)))

  pub none_past : (number at : ℕ) → IsSplit ss number at → at ≡ length ss → slice_get (all_pieces size ss) number ≡ None
  none_past number at split e =
      let all = rw e at (passed number at split (omega arith)) in
      slice_get_past (all_pieces size ss) number (omega (arith, all, ap length all_of_them))

  found_at : (number at : ℕ) (d : Stretch) → at < length ss → HasNumber size (get_or ss at d) number
      → slice_get (all_pieces size ss) number ≡ Some (piece_of size (get_or ss at d) number)
  found_at number at d low has =
      let s : Stretch = get_or ss at d in
      let before : ℕ = length (pieces_up_to size ss at) in
      let i : ℕ = number - before in
      let rises = rises_by_parts at d low in
      let parts = has.parts in
      let from = has.from in
      let below = has.below in
      let number-in : s.end - div_ceil s.gap.count size ≡ before = omega (arith, rises) in
      let place : before + i ≡ number = omega (arith, rises, from) in
      let few : i < div_ceil s.gap.count size = omega (arith, rises, from, below) in
      let gap = gap_at at d low in
      let total = few_before size (gaps_in ss) at no_piece (omega (arith, gaps_long)) in
      let count = ap (λ (p : Piece). div_ceil p.count size) gap in
      slice_get-get_or (all_pieces size ss) number no_piece (omega (arith, total, count, rises, below))
      ∙ ap (λ n. Some (get_or (all_pieces size ss) n no_piece)) (sym place)
      ∙ rw (
        get_or-flat_map (parts_of size) (gaps_in ss) at i no_piece no_piece (omega (arith, gaps_long))
            (omega (arith, few, count, parts_long size (get_or (gaps_in ss) at no_piece))),
        gap,
        get_or-map-range_with_len (part_of size s.gap) 0 (div_ceil s.gap.count size) i i no_piece few (omega arith),
        number-in,
      )

  pub found_here : (number at : ℕ) (d : Stretch) → IsSplit ss number at → at < length ss
      → IsFound size ss number (get_or ss at d)
  found_here number at d split low =
      let rises = rises_by_parts at d low in
      let before = passed number at split (omega arith) in
      let has : HasNumber size (get_or ss at d) number = record {
        parts = omega (arith, rises);
        from = omega (arith, rises, before);
        below = split.1 at d (omega arith) low;
      } in
      record { has = has; is = found_at number at d low has }

-- by two readings of the stretches, as the search and the look-up have them
pub found_by : (size : ℕ) (ss xs ys : List Stretch) (number at : ℕ) (s : Stretch) → ArePiecesCounted size ss → xs ≡ ss
    → ys ≡ ss → IsSplit xs number at → at < length ys → ((d : Stretch) → s ≡ get_or ys at d)
    → IsFound size ss number s
found_by size ss xs ys number at s are first second split low is =
    rw (is no_stretch, second) (found_here size ss are number at no_stretch (rw first at split) (rw second at low))
