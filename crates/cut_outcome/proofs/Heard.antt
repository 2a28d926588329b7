-- What a receiver has heard: nothing that is not alerted, and at the end all that is.
use Rattle.std.proofs.Common.{◌≡◌, ℕ, ◌<◌, ◌≤◌, Bool, true, List, length, get_or, nat_lt, refl, sym, ap, ◌∙◌, arith}
use Rattle.cut_outcome.proofs.Words.{◌&&◌, range_with_len, list_any, Edge, set_of, is_edge, edge_number, Layout}
use Rattle.cut_outcome.proofs.Words.{observer_of, Delivery, Source, key_at, all_deliveries, copies_of, delivery_place}
use Rattle.cut_outcome.proofs.Words.{compare_deliveries, delivery_rank, early, Assignment, alerts_about}
use Rattle.cut_outcome.proofs.Words.{alert_list, all_edges, edges_of, Grows}
use Rattle.std.proofs.lemmas.Bool.{and_from, and_parts, eq-eqb, eqb-true, lt-ltb, ltb-true}
use Rattle.std.proofs.lemmas.Cmp.{nat_cmp_total, then_total, on_total}
use Rattle.std.proofs.lemmas.List.Elements.{Contains-get_or}
use Rattle.std.proofs.lemmas.List.Folds.{Any-from_list_any, list_any_at}
use Rattle.std.proofs.lemmas.Map.Views.{any-filter_same}
use Rattle.cut_lists.proofs.Counts.{list_any-implied}
use Rattle.cut_lists.proofs.Maps.{list_any-map, list_any-flat_map}
use Rattle.cut_lists.proofs.Ranges.{passing, list_any_passing}
use Rattle.cut_lists.proofs.Ranks.{rank-below}

-- ---- the alerted edges

pub among_all : (k n ring s : ℕ) → ring < k → s < n → set_of (all_edges k n) ring s ≡ true
among_all k n ring s below process =
    list_any-flat_map (λ e. is_edge ring s e) (λ q. edges_of k q) (range_with_len 0 n)
    ∙ list_any_passing (λ q. list_any (λ e. is_edge ring s e) (edges_of k q)) 0 n s
    (omega arith) (omega arith)
    (list_any-map (λ e. is_edge ring s e) (λ i. record { ring = i; subject = s }) (range_with_len 0 k)
    ∙ list_any_passing (λ i. is_edge ring s (record { ring = i; subject = s })) 0 k ring
    (omega arith) (omega arith)
    (and_from _ _ (eq-eqb ring ring refl) (eq-eqb s s refl)))

-- an edge is listed where it is one of those rings and processes, and its observer raises the alert
pub listed : (r : Layout) (a : Assignment) (k ring s : ℕ)
    → set_of (alert_list r a k) ring s
    ≡ (alerts_about a (observer_of r ring s) s && set_of (all_edges k r.nodes) ring s)
listed r a k ring s =
    grind (arith, any-filter_same, eqb-true)

pub listed_is_raised : (r : Layout) (a : Assignment) (k ring s : ℕ)
    → set_of (alert_list r a k) ring s ≡ true → alerts_about a (observer_of r ring s) s ≡ true
listed_is_raised r a k ring s is = (and_parts _ _ (sym (listed r a k ring s) ∙ is)).0

pub raised_is_listed : (r : Layout) (a : Assignment) (k ring s : ℕ) → ring < k → s < r.nodes
    → alerts_about a (observer_of r ring s) s ≡ true → set_of (alert_list r a k) ring s ≡ true
raised_is_listed r a k ring s below process raised = listed r a k ring s
    ∙ and_from _ _ raised (among_all k r.nodes ring s below process)

-- ---- the deliveries

module _ (d : Source) (j k : ℕ) (edges : List Edge) (copies : ℕ) where
  abbrev all : List Delivery
  all = all_deliveries edges copies

  abbrev rank : Delivery → ℕ
  rank x = delivery_rank d j k edges copies x

  abbrev of_edge : ℕ → ℕ → Delivery → Bool
  of_edge ring s x = is_edge ring s x.edge

  -- what is heard is an edge of the list
  pub heard_is_listed : (n ring s : ℕ) → early d j k edges copies n ring s ≡ true → set_of edges ring s ≡ true
  heard_is_listed n ring s heard =
      let test : Delivery → Bool = of_edge ring s in
      let any = list_any-implied (λ x. test x && nat_lt (rank x) n) test all
      (λ x is. (and_parts (test x) _ is).0) heard in
      let copy = passing (λ c. list_any test (copies_of edges c)) 0 copies
      (sym (list_any-flat_map test (λ c. copies_of edges c) (range_with_len 0 copies)) ∙ any) in
      sym (list_any-map test (λ e. record { edge = e; copy = copy.0 }) edges) ∙ copy.1.passes

  -- at the end every edge of the list is heard
  pub listed_is_heard : (ring s : ℕ) → 1 ≤ copies → set_of edges ring s ≡ true
      → (0 < length all) × (early d j k edges copies (length all) ring s ≡ true)
  listed_is_heard ring s some is =
      let test : Delivery → Bool = of_edge ring s in
      let any = list_any-flat_map test (λ c. copies_of edges c) (range_with_len 0 copies)
      ∙ list_any_passing (λ c. list_any test (copies_of edges c)) 0 copies 0 (omega arith) (omega arith)
      (list_any-map test (λ e. record { edge = e; copy = 0 }) edges ∙ is) in
      let at = Any-from_list_any test all any in
      let count : ℕ = length all in
      let total = then_total (on_total (λ x. key_at d (delivery_place j k x)) nat_cmp_total)
      (then_total (on_total (λ (x : Delivery). edge_number k x.edge) nat_cmp_total)
      (on_total (λ (x : Delivery). x.copy) nat_cmp_total)) in
      let x : Delivery = get_or all at.0 at.1 in
      let soon = rank-below {R = compare_deliveries d j k} total all x (Contains-get_or all at.0 at.1 at.2) in
      let passes = and_from _ _ (ap test at.3 ∙ at.4) (lt-ltb _ _ soon) in
      (omega (arith, at.2), list_any_at (λ x. test x && nat_lt (rank x) count) all at.0 at.1 at.2 passes)

  -- and nothing that has been heard is forgotten
  pub early_grows : Grows (λ n. early d j k edges copies n)
  early_grows m n ring s le =
      let heard : ℕ → Delivery → Bool = λ k x. of_edge ring s x && nat_lt (rank x) k in
      list_any-implied (heard m) (heard n) all (λ x is.
      (let parts = and_parts (of_edge ring s x) (nat_lt (rank x) m) is in
      and_from _ _ parts.0 (lt-ltb (rank x) n (omega (arith, ltb-true (rank x) m parts.1, le)))))
