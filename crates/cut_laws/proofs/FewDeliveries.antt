-- How many deliveries bring alerts about one process: as many as there are copies of the rings heard of, at most.
use Rattle.std.proofs.Common.{◌≡◌, ◌≢◌, ℕ, zero, suc, ◌+◌, ◌-◌, ◌*◌, ◌<◌, ◌≤◌, min, Bool, true, not, List, [], ◌∷◌}
use Rattle.std.proofs.Common.{length, map, get_or, nat_lt, inl, inr, refl, ap, ◌∙◌, arith, append-nil}
use Rattle.cut_laws.proofs.Words.{DeliveriesAreCopiesOfEdges, DeliveriesAreOfGivenEdges, Delivery, Edge}
use Rattle.cut_laws.proofs.Words.{EdgeNumbersNameEdges, EdgeSet, NoneIsHeardOfAtFirst, Source, all_deliveries}
use Rattle.cut_laws.proofs.Words.{count_by, delivery_rank, early, edges_of, flat_map, is_edge}
use Rattle.cut_laws.proofs.Words.{range_with_len, set_of, ◌&&◌}
use Rattle.cut_detector.specs.Counts.{ring_count}
use Rattle.cut_draws.specs.DeliveryOrder.{are_distinct}
use Rattle.cut_draws.specs.Laws.{DeliveriesAreCountedByCopies, DistinctEdgesHaveAnOrder}
use Rattle.std.proofs.lemmas.Bool.{and_from, and_parts, cases_lt, eq-eqb, le-ltb, lt-ltb, both_ways}
use Rattle.std.proofs.lemmas.Bool.{not-true}
use Rattle.std.proofs.lemmas.List.Folds.{list_any_at}
use Rattle.std.proofs.lemmas.List.FromFn.{length-range_with_len}
use Rattle.std.proofs.lemmas.List.Sorted.{sum_by-IsPermutation}
use Rattle.std.proofs.lemmas.List.Sums.{sum_by-cons, sum_by-le}
use Rattle.cut_lists.proofs.Maps.{count_by-map, list_any-map}
use Rattle.cut_lists.proofs.Ranges.{All-range_with_len, list_any_none_passing, list_any_passing}
use Rattle.cut_laws.proofs.Counting.{bit, gained, none_counted, one_more}
use Rattle.cut_laws.proofs.NewEdges.{brought, one_ring}

-- ---- lists

none_there : {X : Type 0} (g : ℕ → List X) (a n : ℕ) → ((q : ℕ) → a ≤ q → q < a + n → g q ≡ [])
    → flat_map g (range_with_len a n) ≡ []
none_there g a zero none = refl
none_there g a (suc n) none =
    grind (arith, none_there g (a + 1) n)

-- where all parts but one are empty, that is the whole
pub one_part : {X : Type 0} (g : ℕ → List X) (a n s : ℕ) → a ≤ s → s < a + n
    → ((q : ℕ) → q < a + n → q ≢ s → g q ≡ []) → flat_map g (range_with_len a n) ≡ g s
one_part g a zero s from below none = absurd (omega (arith, from, below))
one_part g a (suc n) s from below none = grind (arith, none_there, append-nil, one_part g (a + 1) n s)

-- along a list whose elements have the ranks from a on, those below n are counted
ranked : {X : Type 0} (f : X → ℕ) (xs : List X) (a n : ℕ)
    → ((i : ℕ) (d : X) → i < length xs → f (get_or xs i d) ≡ a + i)
    → count_by (λ x. nat_lt (f x) n) xs ≡ min (length xs) (n - a)
ranked f [] a n each = omega arith
ranked f (x ∷ xs) a n each =
    let rest = ranked f xs (a + 1) n (λ i d below. omega (arith, each (suc i) d (omega (arith, below)))) in
    let first : f x ≡ a = omega (arith, each 0 x (omega arith)) in
    let more = sum_by-cons (λ y. bit (nat_lt (f y) n)) x xs in
    elim (cases_lt a n) [
      | inl below ↦ omega (arith, rest, more, ap bit (lt-ltb (f x) n (omega (arith, first, below))), below)
      | inr past ↦ omega (arith, rest, more, ap bit (le-ltb (f x) n (omega (arith, first, past))), past)
    ]

-- ---- the edges of one process

abbrev edge : ℕ → ℕ → Edge
edge s ring = record { ring = ring; subject = s }

distinct_from : (k s a m : ℕ) → are_distinct k (map (edge s) (range_with_len a m)) ≡ true
distinct_from k s a zero = refl
distinct_from k s a (suc m) =
    grind (arith, list_any_none_passing, list_any-map, distinct_from k s (a + 1) m)

pub ring_given : (k s ring : ℕ) → ring < k → set_of (edges_of k s) ring s ≡ true
ring_given k s ring below =
    list_any-map (λ e. is_edge ring s e) (edge s) (range_with_len 0 k)
    ∙ list_any_passing (λ i. is_edge ring s (edge s i)) 0 k ring (omega arith) (omega (arith, below))
    (and_from _ _ (eq-eqb ring ring refl) (eq-eqb s s refl))

module _ (has_order : DistinctEdgesHaveAnOrder) (by_copies : DeliveriesAreCountedByCopies)
    (given : DeliveriesAreOfGivenEdges) (copied : DeliveriesAreCopiesOfEdges) (d : Source) (j k s copies : ℕ) where
  abbrev edges : List Edge
  edges = edges_of k s

  abbrev all : List Delivery
  all = all_deliveries edges copies

  abbrev rank : Delivery → ℕ
  rank x = delivery_rank d j k edges copies x

  abbrev heard : ℕ → EdgeSet
  heard n = early d j k edges copies n

  -- the deliveries that come among the first n are n
  first_are : (n : ℕ) → n ≤ length all → count_by (λ x. nat_lt (rank x) n) all ≡ n
  first_are n within =
      let found = has_order d j k edges copies (distinct_from k s 0 k) in
      let same = sum_by-IsPermutation (λ x. bit (nat_lt (rank x) n)) all found.0 found.1.each_once in
      let count = ranked rank found.0 0 n (λ i x below. omega (arith, found.1.ranks i below x)) in
      omega (arith, same, count, within, found.1.count, copied edges copies)

  -- an edge some copy of which has come is heard of
  heard_by : (n c ring : ℕ) → c < copies → ring < k
      → nat_lt (rank (record { edge = edge s ring; copy = c })) n ≡ true → heard n ring s ≡ true
  heard_by n c ring copy below come =
      let x : Delivery = record { edge = edge s ring; copy = c } in
      let at = (given edges copies x).1 (copy, ring_given k s ring below) in
      let test : Delivery → Bool = λ y. is_edge ring s y.edge && nat_lt (rank y) n in
      list_any_at test all at.0 x at.1 (ap test at.2 ∙ and_from (is_edge ring s (edge s ring)) (nat_lt (rank x) n)
      (and_from _ _ (eq-eqb ring ring refl) (eq-eqb s s refl)) come)

  -- so of each copy there are no more than rings heard of
  of_copy : (n c : ℕ) → c < copies
      → count_by (λ e. nat_lt (rank (record { edge = e; copy = c })) n) edges ≤ ring_count k (heard n) s
  of_copy n c copy =
      let come : ℕ → Bool = λ ring. nat_lt (rank (record { edge = edge s ring; copy = c })) n in
      let same = count_by-map (λ e. nat_lt (rank (record { edge = e; copy = c })) n) (edge s) (range_with_len 0 k) in
      elim (cases_lt (ring_count k (heard n) s) (count_by come (range_with_len 0 k))) [
        | inl more ↦ (
            let at = gained (λ ring. heard n ring s) come k more in
            let parts = and_parts (come at.0) (not (heard n at.0 s)) at.1.passes in
            absurd (both_ways _ (not-true _ parts.1) (heard_by n c at.0 copy (omega (arith, at.1.below)) parts.0)))
        | inr few ↦ omega (arith, same, few)
      ]

  pub few_deliveries : (n : ℕ) → n ≤ length all → n ≤ copies * ring_count k (heard n) s
  few_deliveries n within =
      let each = All-range_with_len
      (λ c. count_by (λ e. nat_lt (rank (record { edge = e; copy = c })) n) edges ≤ ring_count k (heard n) s) 0 copies
      (λ c _ below. of_copy n c (omega (arith, below))) in
      let most = sum_by-le (λ c. count_by (λ e. nat_lt (rank (record { edge = e; copy = c })) n) edges)
      (ring_count k (heard n) s) (range_with_len 0 copies) each in
      let long = ap (λ m. m * ring_count k (heard n) s) (length-range_with_len 0 copies) in
      omega (arith, first_are n within, by_copies (λ x. nat_lt (rank x) n) edges copies, most, long)

-- ---- no more rings are heard of than deliveries have come

module _ (names : EdgeNumbersNameEdges) (none_first : NoneIsHeardOfAtFirst) (d : Source) (j k : ℕ) (es : List Edge)
    (copies s : ℕ) where
  abbrev hears : ℕ → EdgeSet
  hears n = early d j k es copies n

  pub few_rings : (n : ℕ) → ring_count k (hears n) s ≤ n
  few_rings zero = omega (
    arith,
    none_counted (λ ring. hears 0 ring s) (range_with_len 0 k) (λ ring. none_first d j k es copies ring s),
  )
  few_rings (suc n) = omega (
    arith,
    few_rings n,
    one_more (λ ring. hears n ring s) (λ ring. hears (suc n) ring s) k (λ i other low below is too.
        (let first = and_parts (hears (suc n) i s) (not (hears n i s)) is in
        let second = and_parts (hears (suc n) other s) (not (hears n other s)) too in
        one_ring d j k es copies names n i s other low below
        (brought d j k es copies n i s first.0 (not-true _ first.1))
        (brought d j k es copies n other s second.0 (not-true _ second.1)))),
  )
