-- Stable processes have reports: enough of them, and without implicit alerts as many as H.
use Rattle.std.proofs.Common.{◌≡◌, ℕ, ◌<◌, ◌≤◌, false, Some, None, length}
use Rattle.std.proofs.Common.{arith}
use Rattle.cut_laws.proofs.Words.{EdgeSet, IfSome, IsAllConflicts, IsOfLeastPlace, IsSettled, IsTrue, Layout}
use Rattle.cut_laws.proofs.Words.{MatchOption, ProposesAtLeastPlace, Rule, Values, alerts_at, all_deliveries}
use Rattle.cut_laws.proofs.Words.{ends_stable, if◌then◌else◌, is_stable, is_target, outcome, proposed_at}
use Rattle.cut_laws.proofs.Words.{reports_of, rings_of, roles_at, rule_at, set_of, ◌&&◌}
use Rattle.cut_detector.specs.Counts.{full_count}
unfoldable use Rattle.cut_detector.specs.Counts.{is_full, is_reported, is_unstable}
use Rattle.cut_detector.specs.Laws.{UnstableAreReportedAndNotStable}
use Rattle.cut_laws.specs.Ends.{AMissedTargetMakesAllConflicts, StableTargetsAloneLeaveNoExtra}
use Rattle.cut_laws.specs.Reports.{IsByReports, heard_at, least_reports, raised_about}
use Rattle.std.proofs.lemmas.Bool.{lt-leb}
use Rattle.cut_laws.proofs.Cells.{gap_at}

-- ---- one process

-- then the rings that count are those that report it
counts_reports : (r : Layout) (rule : Rule) (E : EdgeSet) (s : ℕ) → rule.implicit && is_reported rule E s ≡ false
    → full_count r rule E s ≡ reports_of rule E s
unfolding is_full
counts_reports r rule E s none =
    grind arith

-- fewer reports than L
few_are : (rule : Rule) (E : EdgeSet) (s : ℕ) → reports_of rule E s < rule.l → is_reported rule E s ≡ false
unfolding is_reported
few_are rule E s few = lt-leb rule.l (reports_of rule E s) few

-- a stable process has this many reports
pub stable_reports : (r : Layout) (rule : Rule) (E : EdgeSet) (s : ℕ) → rule.l ≤ rule.h
    → IsTrue (is_stable r rule E s) → (if rule.implicit then rule.l else rule.h) ≤ reports_of rule E s
unfolding is_stable
stable_reports r rule E s gap stable = grind (arith, counts_reports r rule E s, few_are rule E s)

-- one that is neither stable nor unstable has fewer than L
neither_reports : UnstableAreReportedAndNotStable → (r : Layout) (rule : Rule) (E : EdgeSet) (s : ℕ)
    → (IsTrue (is_stable r rule E s) → ⊥) → (IsTrue (is_unstable r rule E s) → ⊥) → reports_of rule E s < rule.l
unfolding is_reported
neither_reports modes r rule E s unstable none = grind arith

-- ---- a proposal

pub by_reports : ProposesAtLeastPlace → UnstableAreReportedAndNotStable → (v : Values) (t j : ℕ)
    → IfSome (proposed_at v t j) (λ p. IsByReports v t (heard_at v t j p.at) p.members)
by_reports proposes modes v t j =
    let r : Layout = rings_of v in
    let rule : Rule = rule_at v t in
    let count : ℕ = length (all_deliveries (alerts_at v t) v.copies) in
    elim (proposed_at v t j) as (λ o. MatchOption o
    ((n : ℕ) → 1 ≤ n → n ≤ count → IsSettled r rule (heard_at v t j n) → ⊥)
    (IsOfLeastPlace r rule (heard_at v t j) count)
    → IfSome o (λ p. IsByReports v t (heard_at v t j p.at) p.members)) [
      | None ↦ λ none. tt
      | Some p ↦ λ is. record {
        proposed = λ s at. stable_reports r rule (heard_at v t j p.at) s (gap_at v t) ((is.members s).0 at).1;
        left_out = λ s process left. neither_reports modes r rule (heard_at v t j p.at) s
            (λ stable. left ((is.members s).1 (process, stable))) (is.settled.none_unstable s process);
      }
    ] (proposes r rule (heard_at v t j) count)

-- ---- all alerts

ends_reports : (v : Values) (t s : ℕ) → IsTrue (ends_stable v t s) → least_reports v t ≤ raised_about v t s
ends_reports v t s = stable_reports (rings_of v) (rule_at v t) (set_of (alerts_at v t)) s (gap_at v t)

pub too_few_targets : AMissedTargetMakesAllConflicts → (v : Values) (t s : ℕ) → IsTrue (is_target (roles_at v t) s)
    → raised_about v t s < least_reports v t → IsAllConflicts (outcome v t)
too_few_targets missed v t s target few =
    missed v t s target (λ stable. omega (arith, few, ends_reports v t s stable))

pub too_few_others : StableTargetsAloneLeaveNoExtra → (v : Values) (t : ℕ)
    → ((s : ℕ) → s < v.nodes → least_reports v t ≤ raised_about v t s → IsTrue (is_target (roles_at v t) s))
    → (outcome v t).extra ≡ 0
too_few_others others v t targets =
    others v t (λ s process stable. targets s process (ends_reports v t s stable))
