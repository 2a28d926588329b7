-- Counts of processes by the rings that count for them.
use Rattle.std.proofs.Common.{◌≡◌, ℕ, ◌+◌, ◌<◌, ◌≤◌, Bool, true, false, cond, ◌==◌, ◌&&◌, List, [], ◌∷◌, ◌++◌}
use Rattle.std.proofs.Common.{IsTrue, not, nat_lt, nat_le, length, get_or, replicate, vec_len, ap, sym, subst}
use Rattle.std.proofs.Common.{◌∙◌, arith, pow_pos, get_or-set_other}
use Rattle.cut_detector.proofs.Words.{AddsEdge, All, Edge, IsTouched, Masks, Tally}
use Rattle.cut_detector.proofs.Words.{count_by-ones, count_by_none, edges_in, get_or_past, list_any}
use Rattle.cut_detector.proofs.Words.{list_any_passing, nat_tests, processes_with}
use Rattle.cut_detector.proofs.Words.{range_with_len, rings_full, stable_in, unstable_in}
use Rattle.std.specs.Int.RustNames.{count_ones}
use Rattle.std.proofs.lemmas.List.Sums.{count_by-le-length}
use Rattle.std.proofs.lemmas.List.FromFn.{length-range_with_len}
use Rattle.cut_lists.proofs.BitSets.{get_or-zeros}
use Rattle.cut_lists.proofs.Counts.{list_any-count_by, count_by-differ, some_and_none-count}
use Rattle.cut_lists.proofs.Listed.{IsListed, IsListed-push, IsListed-empty, listed-all}
use Rattle.cut_detector.proofs.Bits.{edges_in-with_edge}

-- the rings of other processes stay as they were
pub rings_full-other : (old new : Masks) (edge : Edge) → AddsEdge old new edge → (s : ℕ) → (s ≡ edge.subject → ⊥)
    → rings_full new s ≡ rings_full old s
rings_full-other old new edge has s other =
    grind (arith, get_or-set_other)

-- some ring counts for the subject
pub rings_full-subject : (old new : Masks) (edge : Edge) → AddsEdge old new edge → edge.ring < old.k → edge.subject
    < vec_len old.masks → nat_lt 0 (rings_full new edge.subject) ≡ true
rings_full-subject old new edge has ring subject =
    let inside : edge.subject < length old.masks.items = omega (arith, old.masks.ok.0) in
    let there : edges_in new.masks.items edge.ring edge.subject ≡ true =
    grind (arith, edges_in-with_edge)
    in
    sym (list_any-count_by (λ ring. edges_in new.masks.items ring edge.subject) (range_with_len 0 new.k))
    ∙ list_any_passing (λ ring. edges_in new.masks.items ring edge.subject) 0 new.k edge.ring (omega arith)
    (omega (arith, has.k)) there

-- a count of processes is at most their number
pub processes_with-le : (test : ℕ → Bool) (full : Masks) → processes_with test full ≤ vec_len full.masks
processes_with-le test full =
    grind (arith, count_by-le-length, length-range_with_len)

-- at least L rings are at least H, or fewer
marked_parts : (l h n : ℕ) → l ≤ h → cond {A = ℕ} (nat_le l n) 1 0 ≡ cond (nat_le h n) 1 0
    + cond (nat_le l n && nat_lt n h) 1 0
marked_parts l h n below = grind (arith, nat_tests)

-- settled by the two counts
pub settled_by : (t : Tally) → nat_lt 0 t.stable && (t.stable == t.marked)
    ≡ list_any (stable_in t.rule t.full) (range_with_len 0 (vec_len t.full.masks))
    && not (list_any (unstable_in t.rule t.full) (range_with_len 0 (vec_len t.full.masks)))
settled_by t =
    grind (arith, some_and_none-count, marked_parts)

-- a number of processes once the rings of one have changed, from what the code counts
pub moved_count : (test : ℕ → Bool) (old new : Masks) (edge : Edge) {count m n : ℕ} {before after : Bool}
    → AddsEdge old new edge → edge.subject < vec_len old.masks
    → m ≡ rings_full old edge.subject → n ≡ rings_full new edge.subject → before ≡ test m → after ≡ test n → count
    ≡ processes_with (λ s. test (rings_full old s)) old
    → processes_with (λ s. test (rings_full new s)) new + cond before 1 0 ≡ count + cond after 1 0
moved_count test old new edge {count} {m} {n} {before} {after} has subject first last was is counted =
    let differ = count_by-differ (λ s. test (rings_full old s)) (λ s. test (rings_full new s)) 0 (vec_len old.masks)
    edge.subject
    (record { others = λ s other. ap test (sym (rings_full-other old new edge has s other)) }) (omega arith)
    (omega arith) in
    rw (has.long, was, is, first, last, counted) differ

-- the subject is touched, where it was not
pub IsTouched-touch : (old new : Masks) (edge : Edge) (xs : List ℕ) (is_new : Bool) → AddsEdge old new edge → edge.ring
    < old.k → edge.subject < vec_len old.masks → IsTouched old xs → is_new
    ≡ not (nat_lt 0 (rings_full old edge.subject)) → IsTouched new (cond is_new (xs ++ edge.subject ∷ []) xs)
IsTouched-touch old new edge xs is_new has ring subject touches is =
    subst (λ n. IsListed (λ s. nat_lt 0 (rings_full new s)) n (cond is_new (xs ++ edge.subject ∷ []) xs)) (sym has.long)
    (IsListed-push (λ s. nat_lt 0 (rings_full old s)) (λ s. nat_lt 0 (rings_full new s)) (vec_len old.masks) xs
    edge.subject is_new
    (record { others = λ s other. ap (nat_lt 0) (sym (rings_full-other old new edge has s other)) })
    (rings_full-subject old new edge has ring subject) subject touches is)

-- where a mask is 0 no ring counts
pub rings_full-zero : (full : Masks) (s : ℕ) → get_or full.masks.items s 0 ≡ 0 → rings_full full s ≡ 0
unfolding count_ones
rings_full-zero full s none =
    grind (arith, count_by-ones full.k 0 (pow_pos full.k))

rings_full-empty : (full : Masks) (n : ℕ) → full.masks.items ≡ replicate n 0 → (s : ℕ) → rings_full full s ≡ 0
rings_full-empty full n empty s = rings_full-zero full s (ap (λ xs. get_or xs s 0) empty ∙ get_or-zeros n s)

pub IsTouched-empty : (full : Masks) (n : ℕ) (xs : List ℕ) → full.masks.items ≡ replicate n 0 → xs ≡ []
    → IsTouched full xs
IsTouched-empty full n xs empty e = IsListed-empty (λ s. nat_lt 0 (rings_full full s)) (vec_len full.masks) xs e
    (λ s. ap (nat_lt 0) (rings_full-empty full n empty s))

-- each process of which a ring counts is touched, and each touched one is a process
pub touched-all : (full : Masks) (xs : List ℕ) → IsTouched full xs → All (λ s. s < vec_len full.masks) xs
touched-all full xs touches = listed-all (λ s. nat_lt 0 (rings_full full s)) (vec_len full.masks) xs touches

pub touched-each : (full : Masks) (xs : List ℕ) → IsTouched full xs → (s : ℕ) → 0 < rings_full full s
    → IsTrue (list_any (λ p. s == p) xs)
touched-each full xs touches s some =
    grind (arith, rings_full-zero, get_or_past)

pub processes_with-empty : (test : ℕ → Bool) (full : Masks) (n : ℕ) → full.masks.items ≡ replicate n 0 → test 0 ≡ false
    → 0 ≡ processes_with (λ s. test (rings_full full s)) full
processes_with-empty test full n empty fails =
    sym (count_by_none (λ s. test (rings_full full s)) _
    (λ k d _. ap test (rings_full-empty full n empty (get_or (range_with_len 0 (vec_len full.masks)) k d)) ∙ fails))
