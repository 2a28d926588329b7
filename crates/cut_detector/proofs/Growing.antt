-- What more edges change, and what none leave.
use Rattle.std.proofs.Common.{◌≡◌, ℕ, ◌≤◌, false, ◌&&◌, not, nat_lt, nat_le, IsTrue, arith}
use Rattle.cut_detector.proofs.Words.{EdgeSet, Layout, Rule, false_from_ne_true, is_reported, is_stable}
use Rattle.cut_detector.proofs.Words.{is_unstable, leb-true, nat_tests, reports_of}
use Rattle.cut_detector.specs.Laws.{IsPartOf, IsUnheardOf}
use Rattle.cut_detector.proofs.Modes.{is_reported-more, stable-is, is_stable-from, marked-is, no_reports}
use Rattle.cut_detector.proofs.Modes.{full_count-unreported}
use Rattle.cut_detector.proofs.Gaps.{full_count-grows}

pub reported_kept : (rule : Rule) (E F : EdgeSet) (s : ℕ) → IsPartOf E F → IsTrue (is_reported rule E s)
    → IsTrue (is_reported rule F s)
reported_kept rule E F s part = is_reported-more rule E F s (record { all = part })

pub stable_kept : (r : Layout) (rule : Rule) (E F : EdgeSet) (s : ℕ) → IsPartOf E F → IsTrue (is_stable r rule E s)
    → IsTrue (is_stable r rule F s)
stable_kept r rule E F s part is =
    grind (arith, is_stable-from r rule F s, stable-is r rule E s is, full_count-grows r rule E F s)

below_high : (h n : ℕ) → nat_lt n h ≡ not (nat_le h n)
below_high h n = grind (arith, nat_tests)

pub unstable_by_reported : (r : Layout) (rule : Rule) (E : EdgeSet) (s : ℕ) → is_unstable r rule E s
    ≡ (is_reported rule E s && not (is_stable r rule E s))
unfolding is_unstable is_stable
unstable_by_reported r rule E s =
    search (arith, below_high, marked-is)

unheard_count : (rule : Rule) (E : EdgeSet) (s : ℕ) → IsUnheardOf rule E s → reports_of rule E s ≡ 0
unheard_count rule E s none = no_reports rule E s (λ k below. false_from_ne_true (E k s) (none k below))

pub reported_unheard : (rule : Rule) (E : EdgeSet) (s : ℕ) → 1 ≤ rule.l → IsUnheardOf rule E s
    → IsTrue (is_reported rule E s) → ⊥
unfolding is_reported
reported_unheard rule E s low none is =
    search (arith, leb-true, unheard_count)

pub stable_unheard : (r : Layout) (rule : Rule) (E : EdgeSet) (s : ℕ) → 1 ≤ rule.l → rule.l ≤ rule.h
    → IsUnheardOf rule E s → IsTrue (is_stable r rule E s) → ⊥
stable_unheard r rule E s low gap none is =
    let unreported : is_reported rule E s ≡ false = false_from_ne_true _ (reported_unheard rule E s low none) in
    omega (arith, stable-is r rule E s is, full_count-unreported r rule E s unreported, unheard_count rule E s none)

-- the laws, by what they are about
pub ruleset more_edges = (reported_kept, stable_kept)

pub ruleset unheard = (reported_unheard, stable_unheard)
