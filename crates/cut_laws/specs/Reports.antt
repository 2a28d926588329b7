-- Laws of reports: on how many rings a process has to be reported before it is proposed, and how few reports are
-- overlooked.
use Rattle.std.specs.Prelude.{◌≡◌, ℕ, ◌<◌, ◌≤◌, Contains, IfSome, IsTrue, List, if◌then◌else◌}
use Rattle.cut_plan.specs.Values.{Values}
use Rattle.cut_rings.specs.Edges.{EdgeSet, set_of}
use Rattle.cut_draws.specs.DeliveryOrder.{early}
use Rattle.cut_draws.specs.Source.{source_of}
use Rattle.cut_alerts.specs.Assignment.{is_target}
use Rattle.cut_detector.specs.Counts.{reports_of}
use Rattle.cut_outcome.specs.Outcome.{cell_at, outcome}
use Rattle.cut_laws.specs.Trials.{IsAllConflicts, alerts_at, proposed_at, roles_at, rule_at}

-- what receiver j of trial t has heard of after n deliveries
abbrev pub heard_at : Values → ℕ → ℕ → ℕ → EdgeSet
heard_at v t j n = early (source_of v.seed t) j (cell_at v t).k (alerts_at v t) v.copies n

-- the least number of rings on which a process is reported that is proposed: L with implicit alerts, H without
abbrev pub least_reports : Values → ℕ → ℕ
least_reports v t = if v.implicit then (cell_at v t).l else (cell_at v t).h

-- a proposal by what has been heard of: its members have that many reports, and all other processes fewer than L
pub record IsByReports (v : Values) (t : ℕ) (heard : EdgeSet) (members : List ℕ) : Type 0 where
  pub proposed : (s : ℕ) → Contains members s → least_reports v t ≤ reports_of (rule_at v t) heard s
  pub left_out : (s : ℕ) → s < v.nodes → ¬ Contains members s → reports_of (rule_at v t) heard s < (cell_at v t).l

-- so it is with each proposal, if it is made
abbrev pub ProposesByReports : Type 0
ProposesByReports =
    (v : Values) (t j : ℕ) → IfSome (proposed_at v t j) (λ p. IsByReports v t (heard_at v t j p.at) p.members)

-- on how many rings alerts about process s are raised in trial t
abbrev pub raised_about : Values → ℕ → ℕ → ℕ
raised_about v t s = reports_of (rule_at v t) (set_of (alerts_at v t)) s

-- a target with fewer makes every receiver that proposes a conflict
abbrev pub TooFewAlertsMakeAllConflicts : Type 0
TooFewAlertsMakeAllConflicts =
    (v : Values) (t s : ℕ) → IsTrue (is_target (roles_at v t) s) → raised_about v t s < least_reports v t →
    IsAllConflicts (outcome v t)

-- and if each process that is not a target has fewer, none of these is proposed
abbrev pub TooFewFalseAlertsLeaveNoExtra : Type 0
TooFewFalseAlertsLeaveNoExtra =
    (v : Values) (t : ℕ) →
    ((s : ℕ) → s < v.nodes → least_reports v t ≤ raised_about v t s → IsTrue (is_target (roles_at v t) s)) →
    (outcome v t).extra ≡ 0
