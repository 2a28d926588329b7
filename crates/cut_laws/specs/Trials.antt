-- The trials of a plan, as laws speak of them: the rule, the roles and the alerts of each, what its receivers
-- propose, and who is stable in the end.
use Rattle.std.specs.Prelude.{◌≡◌, ℕ, ◌+◌, Bool, List, Option}
use Rattle.cut_plan.specs.Values.{Values}
use Rattle.cut_rings.specs.declared.edge.Edge.{Edge}
use Rattle.cut_rings.specs.Edges.{set_of}
use Rattle.cut_draws.specs.Source.{source_of}
use Rattle.cut_alerts.specs.Assignment.{Assignment}
use Rattle.cut_alerts.specs.Drawn.{drawn}
use Rattle.cut_alerts.specs.Alerted.{alert_list}
use Rattle.cut_detector.specs.Rule.{Rule, rule_of}
use Rattle.cut_detector.specs.Counts.{is_stable}
use Rattle.cut_detector.specs.declared.proposal.Proposal.{Proposal}
use Rattle.cut_outcome.specs.declared.totals.Totals.{Totals}
use Rattle.cut_outcome.specs.Outcome.{cell_at, receiver_proposal, rings_of}

-- the rule by which the receivers of trial t propose
abbrev pub rule_at : Values → ℕ → Rule
rule_at v t = rule_of (cell_at v t).k (cell_at v t).h (cell_at v t).l v.implicit

-- the roles of trial t
abbrev pub roles_at : Values → ℕ → Assignment
roles_at v t = drawn v (cell_at v t).f (source_of v.seed t) (rings_of v)

-- the alerts of trial t
abbrev pub alerts_at : Values → ℕ → List Edge
alerts_at v t = alert_list (rings_of v) (roles_at v t) (cell_at v t).k

-- what receiver j of trial t proposes
abbrev pub proposed_at : Values → ℕ → ℕ → Option Proposal
proposed_at v t j = receiver_proposal v (cell_at v t) (rings_of v) (source_of v.seed t) (alerts_at v t) j

-- whether process s is stable in the end: if all alerts of trial t have come
abbrev pub ends_stable : Values → ℕ → ℕ → Bool
ends_stable v t s = is_stable (rings_of v) (rule_at v t) (set_of (alerts_at v t)) s

-- every receiver that proposes is a conflict, and no quorum proposed exactly the targets
pub record IsAllConflicts (x : Totals) : Type 0 where
  pub conflicts : x.conflicts + x.silent ≡ x.receivers
  pub right : x.right ≡ 0
