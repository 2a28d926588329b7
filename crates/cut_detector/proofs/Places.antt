-- What is found among the places of a run, and what an edge that is delivered once more changes of it.
use Rattle.std.proofs.Common.{◌≡◌, ℕ, suc, ◌+◌, ◌<◌, ◌≤◌, ◌↔◌, Bool, true, false, cond, not, List, Option, Some}
use Rattle.std.proofs.Common.{None, MatchOption, IsTrue, ap, sym, ◌∙◌, arith, ◌-◌, ◌∷◌, ◌++◌, length, take}
use Rattle.std.proofs.Common.{option_map, length-append}
use Rattle.cut_detector.proofs.Words.{Proposal, both_ways, find, Contains, Edge, EdgeSet, IsOfLeastPlace, IsSettled}
use Rattle.cut_detector.proofs.Words.{IsStrictlyIncreasing, Layout, Rule, and_parts, delayed, first_of}
use Rattle.cut_detector.proofs.Words.{is_settled, is_some_stable, is_some_unstable, is_stable, is_unstable, le-leb}
use Rattle.cut_detector.proofs.Words.{list_any-append, list_any_none_passing, list_any_passing, lt-leb, members_after}
use Rattle.cut_detector.proofs.Words.{proposal_after, proposal_of, range_with_len, set_of, stable_members}
use Rattle.cut_detector.proofs.Words.{take-append-le}
use Rattle.std.proofs.lemmas.List.Kept.{IsStrictlyIncreasing-filter}
use Rattle.std.proofs.Math.Seq.{take-append-add}
use Rattle.std.proofs.lemmas.List.Folds.{list_any_at}
use Rattle.cut_lists.proofs.Ranges.{passing, none_passing, Contains-filter_of, Contains_filter, range-rises}
use Rattle.cut_lists.proofs.Firsts.{NonePasses, IsFirst, found_first, found-repeat}
use Rattle.cut_detector.proofs.History.{made}

pub not_true : (b : Bool) → not b ≡ true → b ≡ false
not_true b e = grind arith

pub IsSettled-from : (r : Layout) (rule : Rule) (E : EdgeSet) → is_settled r rule E ≡ true → IsSettled r rule E
unfolding is_settled is_some_stable is_some_unstable
IsSettled-from r rule E e =
    let parts = and_parts (is_some_stable r rule E) (not (is_some_unstable r rule E)) e in
    let at = passing (λ s. is_stable r rule E s) 0 r.nodes parts.0 in
    let none : is_some_unstable r rule E ≡ false = not_true _ parts.1 in
    record {
      some_stable = (at.0, (let w = at.1.below in omega arith), at.1.passes);
      none_unstable = λ s low t.
          let w : is_unstable r rule E s ≡ false = none_passing (λ q. is_unstable r rule E q) 0 r.nodes s none
          (omega arith) (omega arith) in
          cc;
    }

pub is_settled-from : (r : Layout) (rule : Rule) (E : EdgeSet) → IsSettled r rule E → is_settled r rule E ≡ true
unfolding is_settled is_some_stable is_some_unstable
is_settled-from r rule E settled =
    let at = settled.some_stable in
    let some : is_some_stable r rule E ≡ true = list_any_passing (λ s. is_stable r rule E s) 0 r.nodes at.0
    (omega arith) (omega (arith, at.1)) at.2 in
    grind (arith, list_any_none_passing)

-- the members are the stable processes, ascending
pub Contains-members : (r : Layout) (rule : Rule) (E : EdgeSet) (s : ℕ) → Contains (stable_members r rule E) s
    ↔ ((s < r.nodes) × IsTrue (is_stable r rule E s))
unfolding stable_members
Contains-members r rule E s = (
  (λ at. let w = Contains-filter_of (λ q. is_stable r rule E q) 0 r.nodes s at
      in ((let v = w.below in omega arith), w.passes)),
  (λ at. Contains_filter (λ q. is_stable r rule E q) 0 r.nodes s
      (record { from = omega arith; below = omega (arith, at.0); passes = at.1 })),
)

pub members-rise : (r : Layout) (rule : Rule) (E : EdgeSet) → IsStrictlyIncreasing (stable_members r rule E)
unfolding stable_members
members-rise r rule E = IsStrictlyIncreasing-filter _ (range_with_len 0 r.nodes) (range-rises 0 r.nodes)

-- no place is settled
abbrev pub NoneSettled : Layout → Rule → (ℕ → EdgeSet) → ℕ → Type 0
NoneSettled r rule E count = (n : ℕ) → 1 ≤ n → n ≤ count → IsSettled r rule (E n) → ⊥

abbrev settles_at : Layout → Rule → (ℕ → EdgeSet) → ℕ → Bool
settles_at r rule E n = is_settled r rule (E n)

pub proposes : (r : Layout) (rule : Rule) (E : ℕ → EdgeSet) (count : ℕ)
    → MatchOption (proposal_of r rule E count) (NoneSettled r rule E count) (IsOfLeastPlace r rule E count)
proposes r rule E count =
    go (find (settles_at r rule E) (range_with_len 1 count)) (found_first (settles_at r rule E) 1 count)
  where
    unsettled : (n : ℕ) → is_settled r rule (E n) ≡ false → IsSettled r rule (E n) → ⊥
    unsettled n fails is = both_ways _ fails (is_settled-from r rule (E n) is)

    go : (q : Option ℕ)
        → MatchOption q (NonePasses (settles_at r rule E) 1 count) (IsFirst (settles_at r rule E) 1 count)
        → MatchOption (option_map (λ n. made r rule (E n) n) q)
        (NoneSettled r rule E count) (IsOfLeastPlace r rule E count)
    go None none = λ n low high is. unsettled n (none n low (omega arith)) is
    go (Some m) first = record {
      from_first = first.from;
      to_last = (let w = first.below in omega arith);
      settled = IsSettled-from r rule (E m) first.passes;
      least = λ n low high is. unsettled n (first.least n low high) is;
      members = λ s. Contains-members r rule (E m) s;
      ascending = members-rise r rule (E m);
    }

-- a set does not hold an edge twice
set_of-repeat : (before after : List Edge) (edge : Edge) → Contains before edge → set_of (before ++ edge ∷ after)
    ≡ set_of (before ++ after)
set_of-repeat before after edge at = grind (arith, list_any_at, list_any-append)

pub proposed_delayed : (r : Layout) (rule : Rule) (before after : List Edge) (edge : Edge) → Contains before edge
    → proposal_after r rule (before ++ edge ∷ after)
    ≡ option_map (delayed (length before)) (proposal_after r rule (before ++ after))
proposed_delayed r rule before after edge at =
    let a : ℕ = length after in
    let b : ℕ = length before in
    let longer : length (before ++ edge ∷ after) ≡ a + b + 1 =
    omega (arith, length-append before (edge ∷ after)) in
    let shorter : length (before ++ after) ≡ a + b = omega (arith, length-append before after) in
    let at_place : EdgeSet → ℕ → ℕ → Bool → Proposal =
    λ E m n early. record { members = stable_members r rule E; at = cond early m n } in
    rw (longer, shorter) (found-repeat (is_settled r rule) (made r rule)
    (first_of (before ++ after)) (first_of (before ++ edge ∷ after)) b (delayed b) (omega (arith, at.1))
    (λ E m low. ap (at_place E m (suc m)) (le-leb m b low))
    (λ E m high. (let next : suc m ≡ m + 1 = omega arith in
    ap (at_place E m (suc m)) (lt-leb m b high) ∙ ap (made r rule E) next))
    first later a)
  where
    first : (m : ℕ) → 1 ≤ m → m ≤ length before → first_of (before ++ edge ∷ after) m ≡ first_of (before ++ after) m
    first m from to = ap set_of (take-append-le m before (edge ∷ after) to ∙ sym (take-append-le m before after to))

    later : (m : ℕ) → length before ≤ m → first_of (before ++ edge ∷ after) (m + 1) ≡ first_of (before ++ after) m
    later m from =
        let j : ℕ = m - length before in
        let long : m + 1 ≡ length before + suc j = omega arith in
        let short : m ≡ length before + j = omega arith in
        ap (λ n. set_of (take n (before ++ edge ∷ after))) long
        ∙ ap set_of (take-append-add before (edge ∷ after) (suc j))
        ∙ set_of-repeat before (take j after) edge at
        ∙ ap set_of (sym (take-append-add before after j))
        ∙ ap (λ n. set_of (take n (before ++ after))) (sym short)

pub members_after_repeat : (r : Layout) (rule : Rule) (before after : List Edge) (edge : Edge) → Contains before edge
    → members_after r rule (before ++ edge ∷ after) ≡ members_after r rule (before ++ after)
members_after_repeat r rule before after edge at =
    grind (arith, proposed_delayed)

-- the law on repeats, in both its parts
pub ruleset repeats = (members_after_repeat, proposed_delayed)
