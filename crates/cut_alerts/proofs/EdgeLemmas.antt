-- Lists of edges that ascend by number, and how the list of alerted edges grows.
use Rattle.std.proofs.Common.{add-one, ◌≡◌, ℕ, zero, suc, ◌+◌, ◌*◌, ◌<◌, ◌≤◌, ◌⊎◌, inl, inr, get_or, Bool, true}
use Rattle.std.proofs.Common.{false, cond, List, [], ◌∷◌, ◌++◌, length, length-append, zero-mul, map, filter, refl, sym}
use Rattle.std.proofs.Common.{ap, ◌∙◌, arith, append_assoc, append-nil, nat_lt, ◌==◌, not}
use Rattle.std.proofs.lemmas.Bool.{ltb-true, and_parts, and_from}
use Rattle.cut_lists.proofs.Ranges.{range_with_len_more}
use Rattle.std.proofs.Math.Nat.{add-mul, eq-or-lt_of_le}
use Rattle.std.specs.Prelude.{slice_index, ◌↔◌}
use Rattle.std.specs.List.{Contains, range_with_len, flat_map, list_any, list_all}
use Rattle.std.specs.List.Sorted.{IsStrictlyIncreasing}
use Rattle.std.proofs.lemmas.List.FromFn.{filter_of_map_range_with_len_more, length-map-range_with_len}
use Rattle.std.proofs.lemmas.List.FromFn.{get_or-map-range_with_len}
use Rattle.std.proofs.lemmas.List.Sums.{AllPass-from_list_all, length-filter, count_by-le-length}
use Rattle.std.proofs.lemmas.List.Elements.{filter-append, filter_passes, All-contains, Contains-append_left}
use Rattle.std.proofs.lemmas.List.Elements.{Contains-append_right}
use Rattle.std.proofs.lemmas.List.Concat.{flat_map-append}
use Rattle.std.proofs.lemmas.List.Folds.{list_all-append}
use Rattle.cut_rings.specs.declared.edge.Edge.{Edge}
use Rattle.cut_rings.specs.Edges.{edge_number, is_edge_of, are_edges_of}
use Rattle.cut_draws.specs.DeliveryOrder.{are_distinct}
use Rattle.cut_alerts.specs.Alerted.{edges_of, all_edges}

abbrev pub edge : ℕ → ℕ → Edge
edge ring s = record { ring = ring; subject = s }

-- one more ring of a subject, where its edge passes the test
pub kept_more : (test : Edge → Bool) (s ring : ℕ) (base ys : List Edge) → test (edge ring s) ≡ true → ys ≡ base
    ++ filter test (edges_of ring s) → ys ++ edge ring s ∷ [] ≡ base ++ filter test (edges_of (ring + 1) s)
kept_more test s ring base ys passes is =
    let more = filter_of_map_range_with_len_more test (λ k. edge k s) 0 ring ring (omega arith) in
    grind (arith, append_assoc)

-- one more ring of a subject, where its edge does not
pub skipped_more : (test : Edge → Bool) (s ring : ℕ) (base ys : List Edge) → test (edge ring s) ≡ false → ys ≡ base
    ++ filter test (edges_of ring s) → ys ≡ base ++ filter test (edges_of (ring + 1) s)
skipped_more test s ring base ys fails is =
    let more = filter_of_map_range_with_len_more test (λ k. edge k s) 0 ring ring (omega arith) in
    grind (arith, append-nil)

-- the edges of one more subject
pub all_edges_more : (k s : ℕ) → all_edges k (s + 1) ≡ all_edges k s ++ edges_of k s
all_edges_more k s =
    ap (λ xs. flat_map (λ s. edges_of k s) xs) (range_with_len_more 0 s s (omega arith))
    ∙ flat_map-append (λ s. edges_of k s) (range_with_len 0 s) (s ∷ [])
    ∙ ap (λ ys. all_edges k s ++ ys) (append-nil (edges_of k s))

-- the alerted edges of one more subject
pub subject_more : (test : Edge → Bool) (k s : ℕ) (ys zs : List Edge) → ys ≡ filter test (all_edges k s) → zs ≡ ys
    ++ filter test (edges_of k s) → zs ≡ filter test (all_edges k (s + 1))
subject_more test k s ys zs is more =
    grind (arith, filter-append, all_edges_more)

none_passes : (test : Edge → Bool) (s a j : ℕ) → ((ring : ℕ) → ring < a + j → test (edge ring s) ≡ false)
    → filter test (map (λ ring. edge ring s) (range_with_len a j)) ≡ []
none_passes test s a zero fails = refl
none_passes test s a (suc j) fails =
    let first : test (edge a s) ≡ false = fails a (omega arith) in
    rw first (none_passes test s (a + 1) j (λ ring low. fails ring (omega arith)))

-- a subject none of whose edges passes adds nothing
pub subject_skipped : (test : Edge → Bool) (k s : ℕ) (ys : List Edge) → ys ≡ filter test (all_edges k s)
    → ((ring : ℕ) → ring < k → test (edge ring s) ≡ false) → ys ≡ filter test (all_edges k (s + 1))
subject_skipped test k s ys is fails =
    subject_more test k s ys ys is (sym (ap (λ zs. ys ++ zs) (none_passes test s 0 k (λ ring low. fails ring (omega arith)))
    ∙ append-nil ys))

-- ---- edges within their range

list_all-filter : (p q : Edge → Bool) (xs : List Edge) → list_all p xs ≡ true → list_all p (filter q xs) ≡ true
list_all-filter p q [] h = refl
list_all-filter p q (x ∷ xs) h =
    grind (arith, list_all-filter p q xs)

edges_within : (k n s a j : ℕ) → a + j ≤ k → s < n
    → list_all (λ e. is_edge_of k n e) (map (λ ring. edge ring s) (range_with_len a j)) ≡ true
edges_within k n s a zero fits below = refl
edges_within k n s a (suc j) fits below =
    grind (arith, edges_within k n s (a + 1) j)

subjects_within : (k n a m : ℕ) → a + m ≤ n → list_all (λ e. is_edge_of k n e)
    (flat_map (λ s. edges_of k s) (range_with_len a m)) ≡ true
subjects_within k n a zero fits = refl
subjects_within k n a (suc m) fits =
    grind (arith, edges_within k n a 0 k, list_all-append, subjects_within k n (a + 1) m)

-- edges that pass a test are edges of their rings and processes
pub within_all : (test : Edge → Bool) (k m n : ℕ) → m ≤ n → are_edges_of k n (filter test (all_edges k m)) ≡ true
within_all test k m n fits = list_all-filter (λ e. is_edge_of k n e) test (all_edges k m)
    (subjects_within k n 0 m (omega arith))

-- there are no more than there are processes times rings
length-subjects : (k a m : ℕ) → length (flat_map (λ s. edges_of k s) (range_with_len a m)) ≡ m * k
length-subjects k a zero = sym (zero-mul k)
length-subjects k a (suc m) =
    grind (arith, length-append, length-map-range_with_len, length-subjects k (a + 1) m)

pub few_all : (test : Edge → Bool) (k n : ℕ) → length (filter test (all_edges k n)) ≤ n * k
few_all test k n = grind (arith, length-filter, count_by-le-length, length-subjects)

-- ---- edges that ascend by number

-- each number is at least low, and above those before it
abbrev pub Ascends : ℕ → ℕ → List Edge → Type 0
Ascends k low [] = Unit {0}
Ascends k low (e ∷ es) = (low ≤ edge_number k e) × Ascends k (edge_number k e + 1) es

Ascends-lower : (k low low' : ℕ) (es : List Edge) → low' ≤ low → Ascends k low es → Ascends k low' es
Ascends-lower k low low' [] below up = tt
Ascends-lower k low low' (e ∷ es) below up = (omega (arith, up.0), up.1)

Ascends-filter : (test : Edge → Bool) (k low : ℕ) (es : List Edge) → Ascends k low es → Ascends k low (filter test es)
Ascends-filter test k low [] up = tt
Ascends-filter test k low (e ∷ es) up =
    let rest = Ascends-filter test k (edge_number k e + 1) es up.1 in
    elim (test e) as (λ b. Ascends k low (cond b (e ∷ filter test es) (filter test es))) [
      | true ↦ (up.0, rest)
      | false ↦ Ascends-lower k (edge_number k e + 1) low (filter test es) (omega (arith, up.0)) rest
    ]

-- the edges of a subject ascend up to those of the next, which follow them
Ascends-edges : (k s a j : ℕ) (es : List Edge) → a + j ≤ k → Ascends k (s * k + a + j) es
    → Ascends k (s * k + a) (map (λ ring. edge ring s) (range_with_len a j) ++ es)
Ascends-edges k s a zero es fits up = Ascends-lower k (s * k + a + 0) (s * k + a) es (omega arith) up
Ascends-edges k s a (suc j) es fits up =
    grind (arith, Ascends-edges k s (a + 1) j es)

Ascends-subjects : (k a m : ℕ) → Ascends k (a * k) (flat_map (λ s. edges_of k s) (range_with_len a m))
Ascends-subjects k a zero = tt
Ascends-subjects k a (suc m) =
    let others = flat_map (λ s. edges_of k s) (range_with_len (a + 1) m) in
    let rest = Ascends-subjects k (a + 1) m in
    Ascends-lower k (a * k + 0) (a * k) (edges_of k a ++ others) (omega arith)
    (Ascends-edges k a 0 k others (omega arith) (Ascends-lower k ((a + 1) * k) (a * k + 0 + k) others
    (omega (arith, add-mul)) rest))

not_among : (k n low : ℕ) (es : List Edge) → n < low → Ascends k low es → list_any (λ x. edge_number k x == n) es
    ≡ false
not_among k n low [] below up = refl
not_among k n low (e ∷ es) below up =
    grind (arith, not_among k n (edge_number k e + 1) es)

distinct_from_ascends : (k low : ℕ) (es : List Edge) → Ascends k low es → are_distinct k es ≡ true
distinct_from_ascends k low [] up = refl
distinct_from_ascends k low (e ∷ es) up =
    let apart = not_among k (edge_number k e) (edge_number k e + 1) es (omega arith) up.1 in
    and_from (not (list_any (λ x. edge_number k x == edge_number k e) es)) (are_distinct k es)
    (ap not apart) (distinct_from_ascends k (edge_number k e + 1) es up.1)

-- the edges that pass a test ascend by number
pub ascends_all : (test : Edge → Bool) (k n : ℕ) → Ascends k 0 (filter test (all_edges k n))
ascends_all test k n = Ascends-filter test k 0 (all_edges k n)
    (Ascends-lower k (0 * k) 0 (all_edges k n) (omega arith) (Ascends-subjects k 0 n))

-- so no two of them have one number
pub distinct_all : (test : Edge → Bool) (k n : ℕ) → are_distinct k (filter test (all_edges k n)) ≡ true
distinct_all test k n = distinct_from_ascends k 0 (filter test (all_edges k n)) (ascends_all test k n)

increasing_at : (k low : ℕ) (es : List Edge) → Ascends k low es → (i : ℕ) → suc i
    < length (map (λ e. edge_number k e) es) → slice_index (map (λ e. edge_number k e) es) i
    < slice_index (map (λ e. edge_number k e) es) (suc i)
increasing_at k low [] up i within = omega arith
increasing_at k low (e ∷ []) up i within = omega arith
increasing_at k low (e ∷ f ∷ es) up zero within = omega (arith, up.1.0)
increasing_at k low (e ∷ f ∷ es) up (suc i) within = increasing_at k (edge_number k e + 1) (f ∷ es) up.1 i (omega arith)

-- and their numbers increase
pub increasing_all : (test : Edge → Bool) (k n : ℕ)
    → IsStrictlyIncreasing (map (λ e. edge_number k e) (filter test (all_edges k n)))
increasing_all test k n i within =
    rw (add-one i) (increasing_at k 0 (filter test (all_edges k n)) (ascends_all test k n) i (omega (arith, within)))

-- ---- which edges there are

kept_at : (test : Edge → Bool) (es : List Edge) (e : Edge) (i : ℕ) → i < length es → get_or es i e ≡ e → test e ≡ true
    → Contains (filter test es) e
kept_at test [] e i within at passes = absurd (omega arith)
kept_at test (x ∷ xs) e zero within at passes =
    grind arith
kept_at test (x ∷ xs) e (suc i) within at passes =
    let rest = kept_at test xs e i (omega arith) at passes in
    elim (test x) as (λ b. Contains (cond b (x ∷ filter test xs) (filter test xs)) e) [
      | true ↦ Contains-append_right (x ∷ []) (filter test xs) e rest
      | false ↦ rest
    ]

subjects_have : (k a m : ℕ) (e : Edge) → e.ring < k → a ≤ e.subject → e.subject < a + m
    → Contains (flat_map (λ s. edges_of k s) (range_with_len a m)) e
subjects_have k a zero e on_ring low high = absurd (omega arith)
subjects_have k a (suc m) e on_ring low high = by (λ later. subjects_have k (a + 1) m e on_ring later (omega arith))
    (eq-or-lt_of_le low)
  where
    others : List Edge
    others = flat_map (λ s. edges_of k s) (range_with_len (a + 1) m)

    by : (a + 1 ≤ e.subject → Contains others e) → (a ≡ e.subject) ⊎ (a < e.subject)
        → Contains (edges_of k a ++ others) e
    by rest (inl same) =
        let long : length (edges_of k a) ≡ k = length-map-range_with_len (λ ring. edge ring a) 0 k in
        let at : get_or (edges_of k a) e.ring e ≡ edge e.ring a = get_or-map-range_with_len (λ ring. edge ring a) 0 k
        e.ring e.ring e on_ring (omega arith) in
        Contains-append_left (edges_of k a) others e (e.ring, omega arith, at ∙ ap (edge e.ring) same)
    by rest (inr later) = Contains-append_right (edges_of k a) others e (rest (omega arith))

pub member_all : (test : Edge → Bool) (k n : ℕ) (e : Edge) → Contains (filter test (all_edges k n)) e
    ↔ ((e.ring < k) × (e.subject < n) × (test e ≡ true))
member_all test k n e = (to, from)
  where
    found : List Edge
    found = filter test (all_edges k n)

    to : Contains found e → (e.ring < k) × (e.subject < n) × (test e ≡ true)
    to has =
        let in_range = All-contains (λ x. is_edge_of k n x ≡ true) found e
        (AllPass-from_list_all (λ x. is_edge_of k n x) found (within_all test k n n (omega arith))) has in
        let parts = and_parts (nat_lt e.ring k) (nat_lt e.subject n) in_range in (
          ltb-true e.ring k parts.0,
          ltb-true e.subject n parts.1,
          All-contains (λ x. test x ≡ true) found e
              (filter_passes test (all_edges k n)) has,
        )

    from : (e.ring < k) × (e.subject < n) × (test e ≡ true) → Contains found e
    from is =
        let has = subjects_have k 0 n e is.0 (omega arith) (omega (arith, is.1)) in
        kept_at test (all_edges k n) e has.0 has.1 has.2 is.2
