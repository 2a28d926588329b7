-- The longest spans of what passes, where it is known up to where numbers pass or fail.
use Rattle.std.proofs.Common.{◌≡◌, ℕ, zero, suc, ◌+◌, ◌-◌, ◌<◌, ◌≤◌, Bool, true, false, ◌==◌, ◌&&◌, ◌||◌, not}
use Rattle.std.proofs.Common.{List, [], ◌∷◌, ◌++◌, map, filter, refl, sym, ap, ◌∙◌, arith, append-nil}
use Rattle.std.proofs.Common.{append_assoc}
use Rattle.std.specs.List.{range_with_len, list_any, list_all}
use Rattle.std.proofs.lemmas.Bool.{ne_eqb, and_right, not_from_true}
use Rattle.std.proofs.lemmas.List.{map-append}
use Rattle.std.proofs.lemmas.List.Folds.{length-prefix_len}
use Rattle.std.proofs.lemmas.List.Elements.{filter-append}
use Rattle.cut_lists.proofs.Ranges.{filter_agree_on, All-range_with_len, ranges-join}
use Rattle.cut_lists.proofs.Counts.{filter-none}
use Rattle.cut_lists.proofs.Intervals.{first_failing}
use Rattle.cut_sets.specs.declared.ranges.span.Span.{Span}
use Rattle.cut_sets.specs.ranges.inside.Edges.{flipped}
use Rattle.cut_sets.specs.ranges.Spans.{begins, span_at, spans, span_between}

-- each number from one up to another passes a test, or fails it
abbrev pub Gives : (ℕ → Bool) → Bool → ℕ → ℕ → Type 0
Gives test b from to = (t : ℕ) → from ≤ t → t < to → test t ≡ b

-- the first of m numbers
abbrev first_of : ℕ → ℕ → List ℕ
first_of low zero = []
first_of low (suc m) = low ∷ []

-- of numbers that all pass, the first begins a span and no other does
begin_first : (test : ℕ → Bool) (low m : ℕ) → Gives test true low (low + m)
    → filter (begins test low) (range_with_len low m) ≡ first_of low m
begin_first test low zero passes = refl
begin_first test low (suc m) passes =
    let first : begins test low low ≡ true =
    grind arith
    in
    let others : filter (begins test low) (range_with_len (low + 1) m) ≡ [] =
    filter-none (begins test low) (range_with_len (low + 1) m)
    (All-range_with_len (λ t. begins test low t ≡ false) (low + 1) m (λ t from to.
    and_right (test t) (t == low || not (test (t - 1)))
    (ap (λ b. b || not (test (t - 1))) (ne_eqb t low (λ e. omega arith))
    ∙ not_from_true (test (t - 1)) (passes (t - 1) (omega arith) (omega arith)))))
    in
    grind arith

first_is : (test : ℕ → Bool) (low m n : ℕ) → m ≤ n → Gives test true low (low + m) → (m < n → test (low + m) ≡ false)
    → map (span_at test (low + n)) (first_of low m) ≡ span_between low (low + m)
first_is test low zero n few passes stops =
    grind arith
first_is test low (suc m) n few passes stops =
    grind (arith, length-prefix_len test (range_with_len low n), first_failing test low (suc m) n few passes stops)

pub spans_last : (test : ℕ → Bool) (low m : ℕ) → Gives test true low (low + m) → spans test low m
    ≡ span_between low (low + m)
spans_last test low m passes =
    grind (arith, begin_first, first_is)

-- after a number that fails, the first number begins a span where it passes
begins_anew : (test : ℕ → Bool) (low from t : ℕ) → low < from → test (from - 1) ≡ false → from ≤ t → begins test low t
    ≡ begins test from t
begins_anew test low from t less fails le = grind arith

-- m numbers that pass, k that fail, and n more
pub spans_cut : (test : ℕ → Bool) (low m k n : ℕ) → 0 < k → Gives test true low (low + m)
    → Gives test false (low + m) (low + (m + k)) → spans test low (m + k + n) ≡ span_between low (low + m)
    ++ spans test (low + (m + k)) n
spans_cut test low m k n some passes fails =
    let from : ℕ = low + (m + k) in
    let high : low + (m + k + n) ≡ from + n = omega arith in
    let parts : range_with_len low (m + k + n) ≡ (range_with_len low m ++ range_with_len (low + m) k)
    ++ range_with_len from n =
    sym (ranges-join low (m + k) n) ∙ ap (λ xs. xs ++ range_with_len from n) (sym (ranges-join low m k)) in
    let none : filter (begins test low) (range_with_len (low + m) k) ≡ [] =
    filter-none (begins test low) (range_with_len (low + m) k)
    (All-range_with_len (λ t. begins test low t ≡ false) (low + m) k
    (λ t a b. ap (λ x. x && (t == low || not (test (t - 1)))) (fails t a (omega arith)))) in
    let later : filter (begins test low) (range_with_len from n) ≡ filter (begins test from) (range_with_len from n) =
    filter_agree_on (begins test low) (begins test from) from n
    (record {
      same = λ t a b. begins_anew test low from t (omega arith) (fails (from - 1) (omega arith) (omega arith))
          a;
    }) in
    let starts : filter (begins test low) (range_with_len low (m + k + n)) ≡ first_of low m
    ++ filter (begins test from) (range_with_len from n) =
    ap (filter (begins test low)) parts
    ∙ filter-append (begins test low) (range_with_len low m ++ range_with_len (low + m) k) (range_with_len from n)
    ∙ ap (λ xs. xs ++ filter (begins test low) (range_with_len from n))
    (filter-append (begins test low) (range_with_len low m) (range_with_len (low + m) k)
    ∙ ap (λ xs. filter (begins test low) (range_with_len low m) ++ xs) none ∙ append-nil _
    ∙ begin_first test low m passes)
    ∙ ap (λ xs. first_of low m ++ xs) later
    in
    ap (map (span_at test (low + (m + k + n)))) starts
    ∙ map-append (span_at test (low + (m + k + n))) (first_of low m) (filter (begins test from) (range_with_len from n))
    ∙ ap (λ xs. xs ++ map (span_at test (low + (m + k + n))) (filter (begins test from) (range_with_len from n)))
    (first_is test low m (m + k + n) (omega arith) passes (λ _. fails (low + m) (omega arith) (omega arith)))
    ∙ ap (λ h. span_between low (low + m) ++ map (span_at test h) (filter (begins test from) (range_with_len from n)))
    high

-- the same by where numbers pass and fail: from low up to `last` they pass, then up to `next` they fail
pub spans_step : (test : ℕ → Bool) (low last next high : ℕ) → low ≤ last → last < next → next ≤ high
    → Gives test true low last → Gives test false last next → spans test low (high - low) ≡ span_between low last
    ++ spans test next (high - next)
spans_step test low last next high a b c passes fails =
    let m : ℕ = last - low in
    let k : ℕ = next - last in
    grind (arith, spans_cut test low m k)

-- gaps so far with one added, and those to come
pub gaps_step : (test : ℕ → Bool) (low last next high : ℕ) (olds news all : List Span) → low ≤ last → last < next → next
    ≤ high → Gives test true low last → Gives test false last next → news ≡ olds ++ span_between low last → olds
    ++ spans test low (high - low) ≡ all → news ++ spans test next (high - next) ≡ all
gaps_step test low last next high olds news all a b c passes fails new so-far =
    grind (arith, append_assoc, spans_step)

-- none of a list passes where not all fail
pub any_is : (p : ℕ → Bool) (xs : List ℕ) → not (list_all (λ t. flipped true (p t)) xs) ≡ list_any p xs
any_is p [] = refl
any_is p (x ∷ xs) = grind (arith, any_is p xs)
