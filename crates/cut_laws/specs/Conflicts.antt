-- Laws of conflicts: when a process proposes without all targets, in whatever order alerts reach it.
use Rattle.std.specs.Prelude.{◌≡◌, ℕ, ◌+◌, ◌-◌, ◌<◌, ◌≤◌, ◌↔◌, Bool, false, List, length, reverse, count_by}
use Rattle.std.specs.Prelude.{Option, MatchOption, Contains, IsTrue, if◌then◌else◌}
use Rattle.cut_plan.specs.Values.{Values}
use Rattle.cut_rings.specs.declared.edge.Edge.{Edge}
use Rattle.cut_rings.specs.Edges.{EdgeSet, first_of, is_edge}
use Rattle.cut_rings.specs.Layout.{Layout}
use Rattle.cut_draws.specs.Source.{source_of}
use Rattle.cut_draws.specs.DeliveryOrder.{early}
use Rattle.cut_alerts.specs.Assignment.{is_target}
use Rattle.cut_detector.specs.Rule.{Rule, rule_of}
use Rattle.cut_detector.specs.Counts.{is_stable}
use Rattle.cut_detector.specs.Laws.{Grows, IsSettled, proposal_after}
use Rattle.cut_detector.specs.Proposal.{proposal_of}
use Rattle.cut_detector.specs.declared.proposal.Proposal.{Proposal}
use Rattle.cut_outcome.specs.Outcome.{cell_at, deliveries_at, rings_of}
use Rattle.cut_outcome.specs.Verdicts.{judged}
use Rattle.cut_laws.specs.Trials.{alerts_at, proposed_at, roles_at, rule_at}

-- a proposal that lacks some target
abbrev pub LacksTarget : Layout → (ℕ → Bool) → Option Proposal → Type 0
LacksTarget r is_target o =
    MatchOption o ⊥ (λ p. (s : ℕ) × (s < r.nodes) × IsTrue (is_target s) × ¬ Contains p.members s)

-- after n of `count` deliveries some process is stable and none is unstable, but target s isn't stable
pub record IsSettledWithout (r : Layout) (rule : Rule) (E : ℕ → EdgeSet) (count : ℕ) (is_target : ℕ → Bool)
    (n s : ℕ) : Type 0 where
  pub from_first : 1 ≤ n
  pub to_last : n ≤ count
  pub settled : IsSettled r rule (E n)
  pub process : s < r.nodes
  pub target : IsTrue (is_target s)
  pub without : ¬ IsTrue (is_stable r rule (E n) s)

-- after some of them it is so
abbrev pub SettlesWithout : Layout → Rule → (ℕ → EdgeSet) → ℕ → (ℕ → Bool) → Type 0
SettlesWithout r rule E count is_target = (n : ℕ) × (s : ℕ) × IsSettledWithout r rule E count is_target n s

-- exactly then the proposal lacks some target, which need not be the one that the place has
abbrev pub ConflictsAreSettledTooSoon : Type 0
ConflictsAreSettledTooSoon =
    (r : Layout) (rule : Rule) (E : ℕ → EdgeSet) (count : ℕ) (is_target : ℕ → Bool) → Grows E →
    LacksTarget r is_target (proposal_of r rule E count) ↔ SettlesWithout r rule E count is_target

-- what receiver j of trial t has heard of after n deliveries
abbrev pub heard_at : Values → ℕ → ℕ → ℕ → EdgeSet
heard_at v t j n = early (source_of v.seed t) j (cell_at v t).k (alerts_at v t) v.copies n

-- and exactly then a receiver of a trial is a conflict
abbrev pub ReceiversSettleTooSoon : Type 0
ReceiversSettleTooSoon =
    (v : Values) (t j : ℕ) →
    IsTrue (judged (roles_at v t) (proposed_at v t j)).conflict
    ↔ SettlesWithout (rings_of v) (rule_at v t) (heard_at v t j) (deliveries_at v t) (λ s. is_target (roles_at v t) s)

-- on each of the first k rings each target is reported once, and no other process is
pub record AreReportedOnce (r : Layout) (k : ℕ) (is_target : ℕ → Bool) (edges : List Edge) : Type 0 where
  pub once : (ring s : ℕ) → ring < k → s < r.nodes →
      count_by (λ e. is_edge ring s e) edges ≡ (if is_target s then 1 else 0)

-- then an order ends in a conflict by H and L exactly if its reverse does by K + 1 - L and K + 1 - H
abbrev pub ReversesHaveDualWatermarks : Type 0
ReversesHaveDualWatermarks =
    (r : Layout) (k h l : ℕ) (is_target : ℕ → Bool) (edges : List Edge) → 1 ≤ l → l ≤ h → h ≤ k →
    AreReportedOnce r k is_target edges →
    LacksTarget r is_target (proposal_after r (rule_of k h l false) edges)
    ↔ LacksTarget r is_target (proposal_after r (rule_of k (k + 1 - l) (k + 1 - h) false) (reverse edges))
