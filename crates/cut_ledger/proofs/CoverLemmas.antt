-- Gaps, and the pieces that they are cut into, cover what is not held, each trial once.
use Rattle.std.proofs.Common.{◌≡◌, ℕ, zero, suc, ◌+◌, ◌-◌, ◌*◌, ◌<◌, ◌≤◌, Bool, not, min, List, [], ◌∷◌, map}
use Rattle.std.proofs.Common.{filter, length, get_or, sym, ap, ◌∙◌, arith, append-nil, zero-add}
use Rattle.std.proofs.Math.Nat.{zero-mul}
use Rattle.std.proofs.lemmas.Grind.{flat_map-append}
use Rattle.std.proofs.lemmas.List.Folds.{flat_map-map}
use Rattle.std.proofs.lemmas.List.Elements.{filter-append}
use Rattle.std.proofs.lemmas.List.FromFn.{map-range_with_len_more}
use Rattle.cut_lists.proofs.FlatMaps.{flat_map-flat_map, flat_map-agree}
use Rattle.cut_lists.proofs.Ranges.{ranges-join}
use Rattle.cut_sets.specs.ranges.Laws.{SpansCover}
use Rattle.cut_sets.specs.ranges.Spans.{spans}
use Rattle.cut_ledger.proofs.Words.{Contents, Piece, all_trials, cells_of, div_ceil, flat_map}
use Rattle.cut_ledger.proofs.Words.{gaps_of, has, part_of, parts_of, piece_at, pieces_of, range_with_len, trial_count}
use Rattle.cut_ledger.proofs.Words.{trials_in}
use Rattle.cut_ledger.proofs.GapPieces.{part_within}

-- ---- cells

-- what passes of each cell in turn is what passes
by_cells : (test : ℕ → Bool) (r a m : ℕ) → flat_map (λ c. filter test (range_with_len (c * r) r)) (range_with_len a m)
    ≡ filter test (range_with_len (a * r) (m * r))
by_cells test r a zero = ap (λ k. filter test (range_with_len (a * r) k)) (sym (zero-mul r))
by_cells test r a (suc m) =
    let next : (a + 1) * r ≡ a * r + r = omega arith in
    let count : suc m * r ≡ r + m * r = omega arith in
    rw (by_cells test r (a + 1) m, next, count, ← ranges-join (a * r) r (m * r))
    (sym (filter-append test (range_with_len (a * r) r) (range_with_len (a * r + r) (m * r))))

pub gaps_cover : SpansCover → (l : Contents) → flat_map trials_in (gaps_of l)
    ≡ filter (λ t. not (has l t)) (all_trials l.plan)
gaps_cover cover l =
    let free : ℕ → Bool = λ t. not (has l t) in
    let r : ℕ = l.plan.repeats in
    let cells : List ℕ = range_with_len 0 (length (cells_of l.plan)) in
    flat_map-flat_map trials_in (λ c. map piece_at (spans free (c * r) r)) cells
    ∙ flat_map-agree (λ c. flat_map trials_in (map piece_at (spans free (c * r) r)))
    (λ c. filter free (range_with_len (c * r) r)) cells (λ k d low.
    flat_map-map trials_in piece_at (spans free (get_or cells k d * r) r) ∙ cover free (get_or cells k d * r) r)
    ∙ by_cells free r 0 (length (cells_of l.plan))
    ∙ ap (λ k. filter free (range_with_len k (trial_count l.plan))) (zero-mul r)

-- ---- parts

-- parts of a size up to one of them have the numbers up to there
parts_cover_to : (size : ℕ) (p : Piece) (n : ℕ) → 1 ≤ size → n ≤ div_ceil p.count size
    → flat_map trials_in (map (part_of size p) (range_with_len 0 n)) ≡ range_with_len p.first (min (n * size) p.count)
parts_cover_to size p zero some le = ap (λ k. range_with_len p.first k)
    (sym (let none : min (0 * size) p.count ≡ 0 = omega (arith, zero-mul size) in none))
parts_cover_to size p (suc n) some le =
    let inside : n * size < p.count = part_within size n p.count some (omega arith) in
    let part : ℕ → Piece = part_of size p in
    let last : ℕ = min size (p.count - n * size) in
    let more : suc n ≡ n + 1 = omega arith in
    let before : min (n * size) p.count ≡ n * size = omega arith in
    let after : min (suc n * size) p.count ≡ n * size + last = omega arith in
    ap (λ k. flat_map trials_in (map part (range_with_len 0 k))) more
    ∙ rw (
      after,
      map-range_with_len_more part 0 n n (zero-add n),
      flat_map-append trials_in (map part (range_with_len 0 n)) (part n ∷ []),
      append-nil (trials_in (part n)),
      parts_cover_to size p n some (omega arith),
      before,
    ) (ranges-join p.first (n * size) last)

pub parts_cover : (size : ℕ) (p : Piece) → 1 ≤ size → flat_map trials_in (parts_of size p) ≡ trials_in p
parts_cover size p some =
    grind (arith, parts_cover_to)

pub pieces_cover : SpansCover → (l : Contents) (size : ℕ) → 1 ≤ size → flat_map trials_in (pieces_of l size)
    ≡ filter (λ t. not (has l t)) (all_trials l.plan)
pieces_cover cover l size some =
    flat_map-flat_map trials_in (parts_of size) (gaps_of l)
    ∙ flat_map-agree (λ p. flat_map trials_in (parts_of size p)) trials_in (gaps_of l)
    (λ k d low. parts_cover size (get_or (gaps_of l) k d) some)
    ∙ gaps_cover cover l
