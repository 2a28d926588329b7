-- What reports alone say of a process's mode.
use Rattle.std.proofs.Common.{◌≡◌, inr, inl, ℕ, ◌<◌, ◌≤◌, Bool, true, false, nat_le, IsTrue, refl}
use Rattle.std.proofs.Common.{◌∙◌, arith}
use Rattle.cut_detector.proofs.Words.{ring_count, EdgeSet, Layout, ReportsTargetsAlone, Rule, and_from}
use Rattle.cut_detector.proofs.Words.{count_by_agree, count_by_none, full_count, is_full}
use Rattle.cut_detector.proofs.Words.{is_reported, is_stable, is_unstable, le-leb, leb-true, lt-ltb}
use Rattle.cut_detector.proofs.Words.{nat_tests, range_with_len, reports_of, sum_by-le-sum_by}
use Rattle.std.proofs.lemmas.Bool.{or_left, cases_Bool}
use Rattle.cut_lists.proofs.Parts.{bit_le}

-- stable and unstable, as bounds on how many rings count
pub stable-is : (r : Layout) (rule : Rule) (E : EdgeSet) (s : ℕ) → IsTrue (is_stable r rule E s) → rule.h
    ≤ full_count r rule E s
unfolding is_stable
stable-is r rule E s is = leb-true _ _ is

pub is_stable-from : (r : Layout) (rule : Rule) (E : EdgeSet) (s : ℕ) → rule.h ≤ full_count r rule E s
    → IsTrue (is_stable r rule E s)
unfolding is_stable
is_stable-from r rule E s many = le-leb _ _ many

pub unstable-is : (r : Layout) (rule : Rule) (E : EdgeSet) (s : ℕ) → IsTrue (is_unstable r rule E s)
    → (rule.l ≤ full_count r rule E s) × (full_count r rule E s < rule.h)
unfolding is_unstable
unstable-is r rule E s is =
    grind arith

pub is_unstable-from : (r : Layout) (rule : Rule) (E : EdgeSet) (s : ℕ) → rule.l ≤ full_count r rule E s
    → full_count r rule E s < rule.h → IsTrue (is_unstable r rule E s)
unfolding is_unstable
is_unstable-from r rule E s low high = and_from _ _ (le-leb _ _ low) (lt-ltb _ _ high)

-- each edge of E is one of F
pub record IsWithin (E F : EdgeSet) : Type 0 where
  pub all : (ring s : ℕ) → E ring s ≡ true → F ring s ≡ true

pub ring_count-le : (k : ℕ) (E F : EdgeSet) (s : ℕ) → IsWithin E F → ring_count k E s ≤ ring_count k F s
ring_count-le k E F s within = sum_by-le-sum_by _ _ (range_with_len 0 k)
    (λ ring. bit_le (E ring s) (F ring s) (within.all ring s))

pub is_reported-more : (rule : Rule) (E F : EdgeSet) (s : ℕ) → IsWithin E F → is_reported rule E s ≡ true
    → is_reported rule F s ≡ true
unfolding is_reported
is_reported-more rule E F s within is =
    grind (arith, ring_count-le rule.k E F s within)

-- every reported ring counts
pub reports_of-le : (r : Layout) (rule : Rule) (E : EdgeSet) (s : ℕ) → reports_of rule E s ≤ full_count r rule E s
unfolding is_full
reports_of-le r rule E s = ring_count-le rule.k E (is_full r rule E) s
    (record { all = λ ring q e. or_left (E ring q) _ e })

-- a process that is reported on fewer than L rings gains none
pub is_full-unreported : (r : Layout) (rule : Rule) (E : EdgeSet) (ring s : ℕ) → is_reported rule E s ≡ false
    → is_full r rule E ring s ≡ E ring s
unfolding is_full
is_full-unreported r rule E ring s unreported =
    grind arith

pub full_count-unreported : (r : Layout) (rule : Rule) (E : EdgeSet) (s : ℕ) → is_reported rule E s ≡ false
    → full_count r rule E s ≡ reports_of rule E s
full_count-unreported r rule E s unreported =
    count_by_agree _ _ 0 rule.k (record { same = λ ring _ _. is_full-unreported r rule E ring s unreported })

below : (l n : ℕ) → nat_le l n ≡ false → n < l
below l n e = grind (arith, nat_tests)

-- at least L rings count for a process exactly where it is reported on at least L
pub marked-is : (r : Layout) (rule : Rule) (E : EdgeSet) (s : ℕ) → nat_le rule.l (full_count r rule E s)
    ≡ is_reported rule E s
unfolding is_reported
marked-is r rule E s =
    grind (arith, reports_of-le r rule E s, full_count-unreported r rule E s)

-- with L = H, stable by reports alone
pub is_stable-equal : (r : Layout) (rule : Rule) (E : EdgeSet) (s : ℕ) → rule.l ≡ rule.h → is_stable r rule E s
    ≡ nat_le rule.h (reports_of rule E s)
unfolding is_stable is_reported
is_stable-equal r rule E s equal =
    grind (arith, marked-is r rule E s)

pub equal_none_unstable : (r : Layout) (rule : Rule) (E : EdgeSet) (s : ℕ) → rule.l ≡ rule.h
    → IsTrue (is_unstable r rule E s) → ⊥
equal_none_unstable r rule E s equal is = let parts = unstable-is r rule E s is in omega (arith, parts.0, parts.1)

-- a process that no edge is about has no report
pub no_reports : (rule : Rule) (E : EdgeSet) (s : ℕ) → ((k : ℕ) → k < rule.k → E k s ≡ false) → reports_of rule E s ≡ 0
no_reports rule E s none =
    count_by_agree (λ k. E k s) (λ _. false) 0 rule.k (record { same = λ k _ below. none k (omega arith) })
    ∙ count_by_none (λ _. false) (range_with_len 0 rule.k) (λ _ _ _. refl)

pub full_count-others : (r : Layout) (rule : Rule) (E : EdgeSet) (is_target : ℕ → Bool) → 1 ≤ rule.l
    → ReportsTargetsAlone r rule E is_target → (s : ℕ) → s < r.nodes → is_target s ≡ false → full_count r rule E s ≡ 0
unfolding is_reported
full_count-others r rule E is_target low reports s process other =
    grind (arith, no_reports rule E s, full_count-unreported r rule E s)

pub stable_are_targets : (r : Layout) (rule : Rule) (E : EdgeSet) (is_target : ℕ → Bool) → 1 ≤ rule.l → rule.l ≤ rule.h
    → ReportsTargetsAlone r rule E is_target → (s : ℕ) → s < r.nodes → is_stable r rule E s ≡ is_target s
unfolding is_stable
stable_are_targets r rule E is_target low high reports s process =
    grind (arith, reports_of-le r rule E s, full_count-others r rule E is_target low reports s process)

pub targets_leave_none_unstable : (r : Layout) (rule : Rule) (E : EdgeSet) (is_target : ℕ → Bool) → 1 ≤ rule.l → rule.l
    ≤ rule.h → ReportsTargetsAlone r rule E is_target → (s : ℕ) → s < r.nodes → IsTrue (is_unstable r rule E s) → ⊥
targets_leave_none_unstable r rule E is_target low high reports s process unstable =
    let parts = unstable-is r rule E s unstable in
    elim (cases_Bool (is_target s)) [
      | inl is ↦ (let many : rule.h ≤ reports_of rule E s = reports.each s process is
          in omega (arith, parts.1, reports_of-le r rule E s))
      | inr is ↦ omega (arith, parts.0, full_count-others r rule E is_target low reports s process is)
    ]

-- the law on targets, in both its parts
pub ruleset targets = (stable_are_targets, targets_leave_none_unstable)
