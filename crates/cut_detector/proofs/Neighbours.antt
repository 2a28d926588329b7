-- Who observes whom, and what a process gains where it, or its observer, enters the reported ones.
use Rattle.std.proofs.Common.{◌≡◌, ℕ, ◌+◌, ◌<◌, Bool, true, false, cond, ◌==◌, ◌&&◌, ◌||◌, List, length}
use Rattle.std.proofs.Common.{nat_lt, refl, ap, sym, ◌∙◌, arith}
use Rattle.cut_detector.proofs.Words.{Edge, EdgeSet, IsLayout, Layout, Observes, and-true, and_right}
use Rattle.cut_detector.proofs.Words.{edges_in, is_edge, is_near, length-set, nat_tests}
use Rattle.cut_detector.proofs.Words.{observer_of, or-false, with_edge}
use Rattle.std.proofs.lemmas.List.Sums.{passes_at_first}
use Rattle.cut_lists.proofs.Rounds.{next_one, before}
use Rattle.cut_detector.proofs.Bits.{edges_in-with_edge}
use Rattle.cut_rings.proofs.Observers.{observer_below}

-- the observer observes
observes : (r : Layout) → IsLayout r → (k p : ℕ) → k < length r.positions → p < r.nodes
    → Observes r k (observer_of r k p) p
observes r layout k p ring process =
    grind (arith, observer_below, passes_at_first)

-- s observes u alone
pub observer_of-is : (r : Layout) → IsLayout r → (k s u p : ℕ) → k < length r.positions → s < r.nodes → u < r.nodes → p
    < r.nodes → Observes r k s u → (observer_of r k p == s) ≡ (p == u)
observer_of-is r layout k s u p ring observer subject process sees =
    grind (arith, observer_below r layout k p ring process, next_one r.nodes, observes r layout k p ring process)

-- an edge that is added where a test says so
added : (masks : List ℕ) (edge : Edge) (b : Bool) → edge.subject < length masks → (ring p : ℕ)
    → edges_in (cond b (with_edge masks edge) masks) ring p ≡ (edges_in masks ring p || (is_edge ring p edge && b))
added masks edge true inside ring p = edges_in-with_edge masks edge inside ring p
    ∙ ap (λ x. edges_in masks ring p || x) (sym (and-true (is_edge ring p edge)))
added masks edge false inside ring p = sym (ap (λ x. edges_in masks ring p || x)
    (and_right (is_edge ring p edge) false refl) ∙ or-false _)

pub length-added : (masks : List ℕ) (edge : Edge) (b : Bool) → length (cond b (with_edge masks edge) masks)
    ≡ length masks
length-added masks edge true = length-set masks edge.subject _
length-added masks edge false = refl

-- the rings before i that count are those which counted, and those that s or its subjects gain
abbrev pub with_gains : Layout → (ℕ → ℕ → Bool) → ℕ → ℕ → EdgeSet → EdgeSet
with_gains r gained s i F ring p = F ring p || (nat_lt ring i && (is_near r s ring p && gained ring p))

one_more : (i ring s u p o : ℕ) (before mid after f : Bool) (gained : ℕ → ℕ → Bool) → mid
    ≡ (before || (((i == ring) && (s == p)) && gained i s)) → after ≡ (mid || (((i == ring) && (u == p)) && gained i u))
    → before ≡ (f || (nat_lt ring i && (((p == s) || (o == s)) && gained ring p))) → (i ≡ ring → (o == s) ≡ (p == u))
    → after ≡ (f || (nat_lt ring (i + 1) && (((p == s) || (o == s)) && gained ring p)))
one_more i ring s u p o before mid after f gained first second held sees = grind (arith, nat_tests)

-- one ring more
pub with_gains-more : (r : Layout) → IsLayout r → (gained : ℕ → ℕ → Bool) (s i u : ℕ) → i < length r.positions → s
    < r.nodes → u < r.nodes → Observes r i s u
    → (F : EdgeSet) (before mid after : List ℕ) → length before ≡ r.nodes
    → mid ≡ cond (gained i s) (with_edge before (record { ring = i; subject = s })) before → after
    ≡ cond (gained i u) (with_edge mid (record { ring = i; subject = u })) mid
    → (ring p : ℕ) → p < r.nodes → edges_in before ring p ≡ with_gains r gained s i F ring p → edges_in after ring p
    ≡ with_gains r gained s (i + 1) F ring p
with_gains-more r layout gained s i u ring_in observer subject sees F before mid after long first second ring p process
    held =
    let long_mid : length mid ≡ r.nodes = ap length first
    ∙ length-added before (record { ring = i; subject = s }) (gained i s) ∙ long in
    one_more i ring s u p (observer_of r ring p) (edges_in before ring p) (edges_in mid ring p) (edges_in after ring p)
    (F ring p) gained
    (ap (λ xs. edges_in xs ring p) first ∙ added before (record { ring = i; subject = s }) (gained i s) (omega arith)
    ring p)
    (ap (λ xs. edges_in xs ring p) second ∙ added mid (record { ring = i; subject = u }) (gained i u) (omega arith) ring
    p)
    held
    (λ at. ap (λ k. observer_of r k p == s) (sym at)
    ∙ observer_of-is r layout i s u p ring_in observer subject process sees)

-- where a process is reported, it gains by what its observer is, and its subjects by what they are
pub gained_own : (i x y : Bool) → i ≡ true → x ≡ true → i && x && y ≡ y
gained_own i x y on is = grind arith

pub gained_theirs : (i x y : Bool) → i ≡ true → y ≡ true → i && x && y ≡ x
gained_theirs i x y on is = grind arith
