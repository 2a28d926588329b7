-- The longest spans of what passes a test have the numbers that pass, and lie among those that are looked at.
use Rattle.std.proofs.Common.{◌≡◌, ℕ, zero, suc, ◌+◌, ◌-◌, ◌<◌, ◌≤◌, ◌⊎◌, inl, inr, Bool, true, false}
use Rattle.std.proofs.Common.{cond, List, [], ◌∷◌, ◌++◌, All, map, filter, get_or, refl, sym, ap, ◌∙◌, subst}
use Rattle.std.proofs.Common.{arith, append-nil}
use Rattle.std.specs.List.{range_with_len, prefix_len, flat_map}
use Rattle.std.proofs.lemmas.Bool.{cases_lt}
use Rattle.std.proofs.lemmas.Grind.{flat_map-append}
use Rattle.std.proofs.lemmas.List.Elements.{All-nil, filter-append}
use Rattle.std.proofs.lemmas.List.Folds.{length-prefix_len}
use Rattle.std.proofs.lemmas.List.FromFn.{length-range_with_len, get_or-range_with_len}
use Rattle.std.proofs.lemmas.List.Sums.{prefix_len-le-length, prefix_len_passes, prefix_len_stops}
use Rattle.cut_lists.proofs.Additions.{filter-all}
use Rattle.cut_lists.proofs.Ranges.{All-range_with_len, ranges-join}
use Rattle.cut_sets.specs.declared.ranges.span.Span.{Span}
use Rattle.cut_sets.specs.ranges.Laws.{IsWithin}
use Rattle.cut_sets.specs.ranges.Spans.{begins, numbers_in, span_at, span_between, spans}
use Rattle.cut_sets.proofs.SpanLemmas.{Gives, spans_cut, spans_last}

-- ---- their numbers

span_numbers : (low m : ℕ) → flat_map numbers_in (span_between low (low + m)) ≡ range_with_len low m
span_numbers low zero =
    grind arith
span_numbers low (suc m) =
    let p : Span = record { first = low; count = low + suc m - low } in
    let long : low + suc m - low ≡ suc m = omega arith in
    grind (arith, append-nil)

passes_all : (test : ℕ → Bool) (low m : ℕ) → Gives test true low (low + m) → filter test (range_with_len low m)
    ≡ range_with_len low m
passes_all test low m passes = filter-all test (range_with_len low m)
    (All-range_with_len (λ t. test t ≡ true) low m passes)

-- the spans of a test, one after another, are what passes it
cover_by : (fuel : ℕ) (test : ℕ → Bool) (low n : ℕ) → n ≤ fuel → flat_map numbers_in (spans test low n)
    ≡ filter test (range_with_len low n)
cover_by zero test low n le = let none : n ≡ 0 = omega arith
    in subst (λ k. flat_map numbers_in (spans test low k) ≡ filter test (range_with_len low k)) (sym none) refl
cover_by (suc fuel) test low n le = by (λ a k few. cover_by fuel test a k few) (cases_lt m n)
  where
    all : List ℕ
    all = range_with_len low n

    m : ℕ
    m = prefix_len test (range_with_len low n)

    passes : Gives test true low (low + prefix_len test (range_with_len low n))
    passes = λ t from to.
        (let few = prefix_len-le-length test all in
        let long = length-range_with_len low n in
        let at : get_or all (t - low) 0 ≡ t = get_or-range_with_len low n (t - low) 0 (omega arith) ∙ omega arith in
        ap test (sym at) ∙ prefix_len_passes test all (t - low) 0 (omega arith))

    by : ((a k : ℕ) → k ≤ fuel → flat_map numbers_in (spans test a k) ≡ filter test (range_with_len a k))
        → (prefix_len test (range_with_len low n) < n) ⊎ (n ≤ prefix_len test (range_with_len low n))
        → flat_map numbers_in (spans test low n) ≡ filter test (range_with_len low n)
    by shorter (inr whole) =
        let few = prefix_len-le-length test all in
        let long = length-range_with_len low n in
        let same : m ≡ n = omega arith in
        let each : Gives test true low (low + n) = subst (λ k. Gives test true low (low + k)) same passes in
        ap (flat_map numbers_in) (spans_last test low n each) ∙ span_numbers low n ∙ sym (passes_all test low n each)
    by shorter (inl stops) =
        let rest : ℕ = n - (m + 1) in
        let parts : m + 1 + rest ≡ n = omega arith in
        let long = length-range_with_len low n in
        let at : get_or all m 0 ≡ low + m = get_or-range_with_len low n m 0 stops in
        let fails : test (low + m) ≡ false = ap test (sym at) ∙ prefix_len_stops test all 0 (omega arith) in
        let out : Gives test false (low + m) (low + (m + 1)) = λ t from to.
        (let same : t ≡ low + m = omega arith in ap test same ∙ fails) in
        let later = shorter (low + (m + 1)) rest (omega arith) in
        let first : filter test (range_with_len low (m + 1)) ≡ range_with_len low m =
        ap (filter test) (sym (ranges-join low m 1))
        ∙ filter-append test (range_with_len low m) (range_with_len (low + m) 1)
        ∙ ap (λ xs. xs ++ filter test (range_with_len (low + m) 1)) (passes_all test low m passes)
        ∙ ap (λ b. range_with_len low m ++ cond b ((low + m) ∷ []) []) fails
        ∙ append-nil (range_with_len low m)
        in
        ap (λ k. flat_map numbers_in (spans test low k)) (sym parts)
        ∙ ap (flat_map numbers_in) (spans_cut test low m 1 rest (omega arith) passes out)
        ∙ flat_map-append numbers_in (span_between low (low + m)) (spans test (low + (m + 1)) rest)
        ∙ ap (λ xs. xs ++ flat_map numbers_in (spans test (low + (m + 1)) rest)) (span_numbers low m)
        ∙ ap (λ xs. range_with_len low m ++ xs) later
        ∙ ap (λ xs. xs ++ filter test (range_with_len (low + (m + 1)) rest)) (sym first)
        ∙ sym (filter-append test (range_with_len low (m + 1)) (range_with_len (low + (m + 1)) rest))
        ∙ ap (filter test) (ranges-join low (m + 1) rest)
        ∙ ap (λ k. filter test (range_with_len low k)) parts

pub spans_cover : (test : ℕ → Bool) (low n : ℕ) → flat_map numbers_in (spans test low n)
    ≡ filter test (range_with_len low n)
spans_cover test low n = cover_by n test low n (omega arith)

-- ---- where they lie

at_is : (test : ℕ → Bool) (low n t : ℕ) → low ≤ t → t < low + n → test t ≡ true
    → IsWithin low n (span_at test (low + n) t)
at_is test low n t from to passes =
    grind (arith, length-prefix_len, prefix_len-le-length, length-range_with_len)

each_within : (test : ℕ → Bool) (low n a m : ℕ) → low ≤ a → a + m ≤ low + n
    → All (IsWithin low n) (map (span_at test (low + n)) (filter (begins test low) (range_with_len a m)))
each_within test low n a zero le high = All-nil (IsWithin low n)
each_within test low n a (suc m) le high = grind (arith, at_is, each_within test low n (a + 1) m)

pub spans_within : (test : ℕ → Bool) (low n : ℕ) → All (IsWithin low n) (spans test low n)
spans_within test low n = each_within test low n low n (omega arith) (omega arith)
