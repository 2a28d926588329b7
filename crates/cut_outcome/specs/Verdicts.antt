-- How a proposal is judged. (That a proposal which does not include all failed processes is a conflict
-- is the Rapid paper's study; the rest is this project's profile.)
use Rattle.std.specs.Prelude.{◌≡◌, ℕ, ◌==◌, ◌&&◌, Bool, true, false, not, List, length, filter, Option, Some, None}
use Rattle.std.specs.List.{range_with_len, list_any}
use Rattle.cut_detector.specs.declared.proposal.Proposal.{Proposal}
use Rattle.cut_alerts.specs.Assignment.{Assignment, is_target}
use Rattle.cut_outcome.specs.declared.verdict.Verdict.{Verdict}

-- whether a list has a process
abbrev pub has_process : List ℕ → ℕ → Bool
has_process members p = list_any (λ m. m == p) members

-- the processes of a trial
abbrev pub processes_of : Assignment → List ℕ
processes_of a = range_with_len 0 (length a.roles)

-- the targets, ascending
abbrev pub targets_of : Assignment → List ℕ
targets_of a = filter (λ p. is_target a p) (processes_of a)

-- the receivers, ascending: the processes that are not targets
abbrev pub receivers_of : Assignment → List ℕ
receivers_of a = filter (λ p. not (is_target a p)) (processes_of a)

-- p is a target that is not among the members
abbrev pub is_missed : Assignment → List ℕ → ℕ → Bool
is_missed a members p = is_target a p && not (has_process members p)

-- some target is not among the members: the targets are not a subset of them
abbrev pub lacks_target : Assignment → List ℕ → Bool
lacks_target a members = list_any (λ p. is_target a p && not (has_process members p)) (processes_of a)

-- some member is no target: the members are not a subset of the targets
abbrev pub has_other : Assignment → List ℕ → Bool
has_other a members = list_any (λ p. not (is_target a p)) members

-- the members are processes of the trial, ascending: those that they have
abbrev pub AreAscending : Assignment → List ℕ → Type 0
AreAscending a members = members ≡ filter (λ p. has_process members p) (processes_of a)

-- the verdict on a receiver's proposal, or on none
abbrev pub judged : Assignment → Option Proposal → Verdict
judged a None = record { silent = true; conflict = false; extra = false }
judged a (Some p) = record { silent = false; conflict = lacks_target a p.members; extra = has_other a p.members }
