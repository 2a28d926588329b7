-- An order of alerts and its reverse: what has come at a place of one is what is still to come at a place of the other.
use Rattle.std.proofs.Common.{◌∙◌, ◌≡◌, ℕ, ◌+◌, ◌-◌, ◌<◌, ◌≤◌, Bool, true, false, not, List, [], ◌++◌, length, reverse}
use Rattle.std.proofs.Common.{take, drop, zero, suc, refl, sym, ap, arith, inl, inr, nat_lt, subst}
use Rattle.cut_laws.proofs.Words.{Edge, EdgeSet, IsSettled, IsTrue, Layout, Rule, count_by, if◌then◌else◌, is_edge, is_stable}
use Rattle.cut_laws.proofs.Words.{is_unstable, range_with_len, rule_of, set_of, ◌↔◌}
use Rattle.cut_rings.specs.Edges.{first_of}
use Rattle.cut_detector.specs.Counts.{full_count, ring_count}
unfoldable use Rattle.cut_detector.specs.Counts.{is_full}
use Rattle.cut_detector.specs.Laws.{FirstEdgesGrow, proposal_after}
use Rattle.cut_laws.specs.Conflicts.{AreReportedOnce, ConflictsAreSettledTooSoon, IsSettledWithout, LacksTarget}
use Rattle.cut_laws.specs.Conflicts.{SettlesWithout}
use Rattle.std.proofs.lemmas.Bool.{cases_Bool, cases_lt}
use Rattle.cut_detector.proofs.Words.{nat_tests, or-false}
use Rattle.std.proofs.lemmas.List.FromFn.{length-range_with_len}
use Rattle.std.proofs.lemmas.List.{length-drop, length-reverse, reverse-append, reverse-reverse, take-append-drop}
use Rattle.std.proofs.lemmas.List.Sorted.{IsPermutation-reverse, sum_by-IsPermutation}
use Rattle.std.proofs.lemmas.List.Sums.{sum_by-append, sum_by-take-drop}
use Rattle.std.proofs.Math.Seq.{take-append_seam}
use Rattle.cut_lists.proofs.Counts.{list_any-count_by}
use Rattle.cut_lists.proofs.Parts.{count_rest}
use Rattle.cut_lists.proofs.Ranges.{count_by_agree}
use Rattle.cut_detector.proofs.Modes.{is_stable-from, is_unstable-from, no_reports, stable-is, unstable-is}

-- a list reversed has the same counts
reversed_count : {X : Type 0} (p : X → Bool) (xs : List X) → count_by p (reverse xs) ≡ count_by p xs
reversed_count p xs = sum_by-IsPermutation _ xs (reverse xs) (IsPermutation-reverse xs)

-- the beginning of a reverse is what a beginning leaves, reversed
reversed_rest : {X : Type 0} (n : ℕ) (xs : List X) → take (length xs - n) (reverse xs) ≡ reverse (drop n xs)
reversed_rest n xs =
    ap (λ i. take i (reverse xs)) (sym (length-reverse (drop n xs) ∙ length-drop n xs))
    ∙ ap (λ ys. take (length (reverse (drop n xs))) ys)
    (ap reverse (sym (take-append-drop n xs)) ∙ reverse-append (take n xs) (drop n xs))
    ∙ take-append_seam (reverse (drop n xs)) (reverse (take n xs))

halves : {X : Type 0} (p : X → Bool) (n : ℕ) (xs : List X)
    → count_by p (take n xs) + count_by p (take (length xs - n) (reverse xs)) ≡ count_by p xs
halves p n xs =
    ap (λ ys. count_by p (take n xs) + count_by p ys) (reversed_rest n xs)
    ∙ ap (λ c. count_by p (take n xs) + c) (reversed_count p (drop n xs))
    ∙ sum_by-take-drop _ xs n

-- without implicit alerts the rings that count are those on which a process is reported
explicit_count : (r : Layout) (k h l : ℕ) (E : EdgeSet) (s : ℕ) → full_count r (rule_of k h l false) E s
    ≡ ring_count k E s
unfolding is_full
explicit_count r k h l E s =
    count_by_agree _ _ 0 k (record { same = λ ring low below. or-false (E ring s) })

-- who is reported after m deliveries is so after one at least
some_delivery : (k m s : ℕ) (xs : List Edge) → 1 ≤ ring_count k (first_of xs m) s → 1 ≤ m
some_delivery k zero s xs some =
    absurd (omega (arith, some, no_reports (rule_of k 1 1 false) (first_of xs zero) s (λ ring below. refl)))
some_delivery k (suc m) s xs some = omega arith

module _ (r : Layout) (k : ℕ) (target : ℕ → Bool) (edges : List Edge) (reported : AreReportedOnce r k target edges) where
  abbrev before : ℕ → EdgeSet
  before n = first_of edges n

  abbrev rest : ℕ → EdgeSet
  rest n = first_of (reverse edges) (length edges - n)

  abbrev alerts : ℕ → ℕ → List Edge → ℕ
  alerts ring s xs = count_by (λ e. is_edge ring s e) xs

  heard : (ring s : ℕ) (xs : List Edge) → set_of xs ring s ≡ nat_lt 0 (alerts ring s xs)
  heard ring s xs = list_any-count_by (λ e. is_edge ring s e) xs

  parts : (n ring s : ℕ) → ring < k → s < r.nodes
      → alerts ring s (take n edges) + alerts ring s (take (length edges - n) (reverse edges))
      ≡ (if target s then 1 else 0)
  parts n ring s below process = halves (λ e. is_edge ring s e) n edges ∙ reported.once ring s below process

  other_sign : (x y : ℕ) → x + y ≡ 1 → nat_lt 0 y ≡ not (nat_lt 0 x)
  other_sign x y one = grind (arith, one, nat_tests)

  opposite : (n ring s : ℕ) → ring < k → s < r.nodes → target s ≡ true → rest n ring s ≡ not (before n ring s)
  opposite n ring s below process is =
      heard ring s (take (length edges - n) (reverse edges))
      ∙ other_sign (alerts ring s (take n edges)) _
      (parts n ring s below process ∙ ap (λ b. if b then 1 else 0) is)
      ∙ ap not (sym (heard ring s (take n edges)))

  of_target : (n s : ℕ) → s < r.nodes → target s ≡ true → ring_count k (before n) s + ring_count k (rest n) s ≡ k
  of_target n s process is =
      ap (λ c. ring_count k (before n) s + c)
      (count_by_agree (λ ring. rest n ring s) (λ ring. not (before n ring s)) 0 k
      (record { same = λ ring low below. opposite n ring s (omega (arith, below)) process is }))
      ∙ count_rest (λ ring. before n ring s) (range_with_len 0 k) ∙ length-range_with_len 0 k

  unheard : (ring s : ℕ) (xs : List Edge) → alerts ring s xs ≡ 0 → set_of xs ring s ≡ false
  unheard ring s xs none = heard ring s xs ∙ ap (λ c. nat_lt 0 c) none

  of_other : (n s : ℕ) → s < r.nodes → target s ≡ false
      → (ring_count k (before n) s ≡ 0) × (ring_count k (rest n) s ≡ 0)
  of_other n s process is = (
    no_reports (rule_of k 1 1 false) (before n) s (λ ring below. unheard ring s (take n edges)
        (omega (arith, none ring below))),
    no_reports (rule_of k 1 1 false) (rest n) s (λ ring below. unheard ring s _ (omega (arith, none ring below))),
  )
    where
      none : (ring : ℕ) → ring < k
          → alerts ring s (take n edges) + alerts ring s (take (length edges - n) (reverse edges)) ≡ 0
      none ring below = parts n ring s below process ∙ ap (λ b. if b then 1 else 0) is

  -- ---- a place at which the order settles without a target

  module _ (h l n s : ℕ) (low : 1 ≤ l) (gap : l ≤ h) (top : h ≤ k)
      (at : IsSettledWithout r (rule_of k h l false) before (length edges) target n s) where
    abbrev dual : Rule
    dual = rule_of k (k + 1 - l) (k + 1 - h) false

    abbrev q : ℕ
    q = at.settled.some_stable.0

    high : h ≤ ring_count k (before n) q
    high = omega (
      arith,
      stable-is r (rule_of k h l false) (before n) q at.settled.some_stable.2,
      explicit_count r k h l (before n) q,
    )

    q_target : target q ≡ true
    q_target = elim (cases_Bool (target q)) [
      | inl is ↦ is
      | inr is ↦ absurd (omega (arith, low, gap, high, (of_other n q at.settled.some_stable.1 is).0))
    ]

    -- nobody has from L to H - 1 reports, so who has fewer than H has fewer than L
    between : (u : ℕ) → u < r.nodes → l ≤ ring_count k (before n) u → ring_count k (before n) u < h → ⊥
    between u process from below = at.settled.none_unstable u process
        (is_unstable-from r (rule_of k h l false) (before n) u
        (omega (arith, from, explicit_count r k h l (before n) u))
        (omega (arith, below, explicit_count r k h l (before n) u)))

    few : ring_count k (before n) s < h
    few = elim (cases_lt (ring_count k (before n) s) h) [
      | inl is ↦ is
      | inr many ↦ absurd (at.without (is_stable-from r (rule_of k h l false) (before n) s
          (omega (arith, many, explicit_count r k h l (before n) s))))
    ]

    fewer : ring_count k (before n) s < l
    fewer = elim (cases_lt (ring_count k (before n) s) l) [
      | inl is ↦ is
      | inr many ↦ absurd (between s at.process (omega (arith, many)) few)
    ]

    -- so the reverse has all but fewer than L of its reports, and few of the other's
    missed : k + 1 - l ≤ ring_count k (rest n) s
    missed = omega (arith, fewer, of_target n s at.process at.target)

    none_between : (u : ℕ) → u < r.nodes → IsTrue (is_unstable r dual (rest n) u) → ⊥
    none_between u process unstable =
        let bounds = unstable-is r dual (rest n) u unstable in
        let count = explicit_count r k (k + 1 - l) (k + 1 - h) (rest n) u in
        elim (cases_Bool (target u)) [
          | inl is ↦ between u process (omega (arith, bounds.1, count, gap, top, of_target n u process is))
              (omega (arith, bounds.0, count, gap, top, of_target n u process is))
          | inr is ↦ omega (arith, bounds.0, count, top, (of_other n u process is).1)
        ]

    -- is one at which its reverse does
    one_way : SettlesWithout r dual (first_of (reverse edges)) (length (reverse edges)) target
    one_way = (
      length edges - n,
      q,
      record {
        from_first = some_delivery k (length edges - n) s (reverse edges) (omega (arith, gap, top, missed));
        to_last = omega (arith, length-reverse edges);
        settled = record {
          some_stable = (
            s,
            at.process,
            is_stable-from r dual (rest n) s
                (omega (arith, missed, explicit_count r k (k + 1 - l) (k + 1 - h) (rest n) s)),
          );
          none_unstable = none_between;
        };
        process = at.settled.some_stable.1;
        target = q_target;
        without = λ stable.
            omega (
              arith,
              gap,
              top,
              stable-is r dual (rest n) q stable,
              explicit_count r k (k + 1 - l) (k + 1 - h) (rest n) q,
              high,
              of_target n q at.settled.some_stable.1 q_target,
            );
      },
    )

-- ---- both ways

reversed_once : (r : Layout) (k : ℕ) (target : ℕ → Bool) (edges : List Edge) → AreReportedOnce r k target edges
    → AreReportedOnce r k target (reverse edges)
reversed_once r k target edges reported = record {
  once = λ ring s below process. reversed_count (λ e. is_edge ring s e) edges ∙ reported.once ring s below process;
}

pub dual_conflicts : ConflictsAreSettledTooSoon → FirstEdgesGrow → (r : Layout) (k h l : ℕ) (target : ℕ → Bool)
    (edges : List Edge) → 1 ≤ l → l ≤ h → h ≤ k → AreReportedOnce r k target edges
    → LacksTarget r target (proposal_after r (rule_of k h l false) edges)
    ↔ LacksTarget r target (proposal_after r (rule_of k (k + 1 - l) (k + 1 - h) false) (reverse edges))
dual_conflicts soon grow r k h l target edges low gap top reported = (
  λ lacks.
      let some = (at_rule edges).0 lacks in
      (at_dual (reverse edges)).1 (one_way r k target edges reported h l some.0 some.1 low gap top some.2),
  λ lacks. (at_rule edges).1 (back ((at_dual (reverse edges)).0 lacks)),
)
  where
    at_rule : (xs : List Edge) → LacksTarget r target (proposal_after r (rule_of k h l false) xs)
        ↔ SettlesWithout r (rule_of k h l false) (first_of xs) (length xs) target
    at_rule xs = soon r (rule_of k h l false) (first_of xs) (length xs) target (grow xs)

    at_dual : (xs : List Edge)
        → LacksTarget r target (proposal_after r (rule_of k (k + 1 - l) (k + 1 - h) false) xs)
        ↔ SettlesWithout r (rule_of k (k + 1 - l) (k + 1 - h) false) (first_of xs) (length xs) target
    at_dual xs = soon r (rule_of k (k + 1 - l) (k + 1 - h) false) (first_of xs) (length xs) target (grow xs)

    back : SettlesWithout r (rule_of k (k + 1 - l) (k + 1 - h) false) (first_of (reverse edges))
        (length (reverse edges)) target
        → SettlesWithout r (rule_of k h l false) (first_of edges) (length edges) target
    back (n, s, at) =
        subst (λ xs. SettlesWithout r (rule_of k h l false) (first_of xs) (length xs) target) (reverse-reverse edges)
        (subst (λ y. SettlesWithout r (rule_of k h y false) (first_of (reverse (reverse edges)))
        (length (reverse (reverse edges))) target) (omega (arith, gap, top))
        (subst (λ x. SettlesWithout r (rule_of k x (k + 1 - (k + 1 - l)) false) (first_of (reverse (reverse edges)))
        (length (reverse (reverse edges))) target) (omega (arith, top))
        (one_way r k target (reverse edges) (reversed_once r k target edges reported) (k + 1 - l) (k + 1 - h) n s
        (omega (arith, top)) (omega (arith, gap)) (omega (arith, low)) at)))
