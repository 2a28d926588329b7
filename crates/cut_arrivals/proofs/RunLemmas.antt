-- The first of the edges that are left are those to the next process.
use Rattle.std.proofs.Common.{◌≡◌, ℕ, zero, suc, ◌+◌, ◌-◌, ◌*◌, ◌^◌, ◌<◌, ◌≤◌, ◌==◌, true, false, List, ◌++◌}
use Rattle.std.proofs.Common.{length, take, drop, nat_le, nat_lt, refl, ap, ◌∙◌, arith, length-append}
use Rattle.std.proofs.Common.{mul-le-mul}
use Rattle.std.proofs.lemmas.List.{length-map}
use Rattle.std.specs.List.{All, range_with_len, prefix_len}
use Rattle.std.proofs.lemmas.Bool.{and_from, eq-eqb, ne_eqb, lt-ltb}
use Rattle.std.proofs.lemmas.List.Elements.{All-map, All-filter, All-weaker}
use Rattle.std.proofs.lemmas.List.Sums.{length-filter, count_by-le-length, list_all-from_AllPass}
use Rattle.std.proofs.lemmas.List.FromFn.{length-range_with_len}
use Rattle.cut_lists.proofs.FlatMaps.{All-flat_map}
use Rattle.cut_lists.proofs.Ranges.{All-range_with_len}
use Rattle.cut_rings.specs.declared.edge.Edge.{Edge}
use Rattle.cut_rings.specs.Edges.{EdgeSet, edge_to, rings_to, is_edge_of, are_edges_of, edges_in}
use Rattle.cut_detector.specs.Rule.{Rule}
use Rattle.cut_detector.specs.Counts.{ring_count}
unfoldable use Rattle.cut_detector.specs.Counts.{is_reported}
use Rattle.cut_arrivals.specs.candidates.inside.Runs.{run_of, runs_from}
use Rattle.cut_arrivals.proofs.ListLemmas.{prefix_of, take_joined, drop_joined}

to_subject : (k : ℕ) (E : EdgeSet) (s : ℕ) (P : Edge → Type 0) → ((ring : ℕ) → P (edge_to s ring))
    → All P (run_of k E s)
to_subject k E s P each = All-map P (λ ring. edge_to s ring) (rings_to k E s) (λ i d low. each _)

later : (k : ℕ) (E : EdgeSet) (s n : ℕ) → All (λ e. s ≤ e.subject) (runs_from k E s n)
later k E s n =
    All-flat_map (λ e. s ≤ e.subject) (λ u. run_of k E u) (range_with_len s n)
    (All-range_with_len (λ u. All (λ e. s ≤ e.subject) (run_of k E u)) s n
    (λ u low high. to_subject k E u (λ e. s ≤ e.subject) (λ ring. low)))

first_run : (k : ℕ) (E : EdgeSet) (s m : ℕ)
    → prefix_len (λ e. e.subject == s) (run_of k E s ++ runs_from k E (s + 1) m) ≡ length (run_of k E s)
first_run k E s m =
    prefix_of (λ e. e.subject == s) (run_of k E s) (runs_from k E (s + 1) m)
    (to_subject k E s (λ e. (e.subject == s) ≡ true) (λ ring. eq-eqb s s refl))
    (All-weaker (λ e. s + 1 ≤ e.subject) (λ e. (e.subject == s) ≡ false)
    (λ e up. ne_eqb e.subject s (λ same. omega arith))
    (runs_from k E (s + 1) m) (later k E (s + 1) m))

-- what is taken off the edges that are left
pub record IsNextRun (k n : ℕ) (E : EdgeSet) (s : ℕ) (edges : List Edge) (count : ℕ) : Type 0 where
  pub first : take count edges ≡ run_of k E s
  pub rest : drop count edges ≡ runs_from k E (s + 1) (n - (s + 1))
  pub long : length edges ≡ count + length (runs_from k E (s + 1) (n - (s + 1)))
  pub many : count ≡ length (run_of k E s)

pub next_run : (k n : ℕ) (E : EdgeSet) (s : ℕ) (edges : List Edge) (count : ℕ) → s < n → edges ≡ runs_from k E s (n - s)
    → count ≡ prefix_len (λ e. e.subject == s) edges → IsNextRun k n E s edges count
next_run k n E s edges count low is counted =
    let run : List Edge = run_of k E s in
    let others : List Edge = runs_from k E (s + 1) (n - (s + 1)) in
    let one : n - s ≡ suc (n - (s + 1)) = omega arith in
    grind (arith, first_run, take_joined, drop_joined, length-append)

-- ---- how many edges

pub length_run : (k : ℕ) (E : EdgeSet) (s : ℕ) → length (run_of k E s) ≡ ring_count k E s
length_run k E s = length-map (rings_to k E s) (λ ring. edge_to s ring)
    ∙ length-filter (λ ring. E ring s) (range_with_len 0 k)

pub few_run : (k : ℕ) (E : EdgeSet) (s : ℕ) → length (run_of k E s) ≤ k
few_run k E s =
    grind (arith, length_run, count_by-le-length, length-range_with_len)

pub few_runs : (k : ℕ) (E : EdgeSet) (s n : ℕ) → length (runs_from k E s n) ≤ n * k
few_runs k E s zero = omega arith
few_runs k E s (suc n) =
    omega (arith, length-append (run_of k E s) (runs_from k E (s + 1) n), few_run k E s, few_runs k E (s + 1) n)

-- a process is reported where its edges are at least L
pub reported_by : (rule : Rule) (E : EdgeSet) (s : ℕ) (edges : List Edge) → edges ≡ run_of rule.k E s
    → nat_le rule.l (length edges) ≡ is_reported rule E s
unfolding is_reported
reported_by rule E s edges is = ap (λ es. nat_le rule.l (length es)) is
    ∙ ap (λ n. nat_le rule.l n) (length_run rule.k E s)

-- they are edges of the first rings
pub edges_of_run : (k : ℕ) (E : EdgeSet) (s n : ℕ) → s < n → are_edges_of k n (run_of k E s) ≡ true
edges_of_run k E s n low =
    list_all-from_AllPass (λ e. is_edge_of k n e) (run_of k E s)
    (All-map (λ e. is_edge_of k n e ≡ true) (λ ring. edge_to s ring) (rings_to k E s)
    (All-filter (λ ring. E ring s) (λ ring. is_edge_of k n (edge_to s ring) ≡ true) (range_with_len 0 k)
    (All-range_with_len (λ ring. is_edge_of k n (edge_to s ring) ≡ true) 0 k
    (λ ring from below. and_from (nat_lt ring k) (nat_lt s n) (lt-ltb ring k (omega arith)) (lt-ltb s n low)))))

-- the ascending edges of a trial are at most 2 ^ 16
pub few_edges : (k n : ℕ) (E : EdgeSet) (edges : List Edge) → edges ≡ edges_in k n E → k ≤ 32 → n ≤ 2048
    → length edges ≤ 2 ^ 16
few_edges k n E edges is rings nodes =
    omega (arith, ap (λ es. length es) is, few_runs k E 0 n, mul-le-mul nodes rings)
