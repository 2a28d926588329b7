-- With a higher H, and without implicit alerts with a lower L too, a receiver proposes later and of more, so
-- it is judged silent more often and a conflict less often.
use Rattle.std.proofs.Common.{◌≡◌, ℕ, ◌≤◌, Bool, true, false, not, List, Option, Some, None, length, inl, inr, refl}
use Rattle.std.proofs.Common.{sym, ap, subst}
use Rattle.cut_outcome.proofs.Words.{◌||◌, ◌==◌, Contains, Cell, Values, Edge, EdgeSet, Layout, Source, all_deliveries}
use Rattle.cut_outcome.proofs.Words.{early, Assignment, is_target, alert_list, drawn, proposal_of, rule_of}
use Rattle.cut_outcome.proofs.Words.{ProposesBefore, AWiderGapProposesLater, AGapWiderAtBothEndsProposesLater, Proposal}
use Rattle.cut_outcome.proofs.Words.{Verdict, with_marks, IsMoreCautious, AreMoreCautious, has_process, processes_of}
use Rattle.cut_outcome.proofs.Words.{is_missed, lacks_target, judged, receivers_of, receiver_proposal, cell_outcome}
use Rattle.std.proofs.lemmas.Bool.{and_from, and_parts, or_cases, or_right, cases_Bool, both_ways, not_from_false}
use Rattle.cut_lists.proofs.Counts.{list_any-implied, list_any-among, counts-into}
use Rattle.cut_lists.proofs.Maps.{count_by-map}
use Rattle.cut_lists.proofs.Parts.{count_le}
use Rattle.cut_outcome.proofs.Heard.{early_grows}
use Rattle.cut_outcome.proofs.Outcomes.{silent_is_not_extra}

-- ---- verdicts

lacks_still : (a : Assignment) (xs ys : List ℕ) → ((s : ℕ) → Contains xs s → Contains ys s)
    → lacks_target a ys ≡ true → lacks_target a xs ≡ true
lacks_still a xs ys among =
    list_any-implied (λ p. is_missed a ys p) (λ p. is_missed a xs p) (processes_of a) (λ p is.
    (let parts = and_parts (is_target a p) (not (has_process ys p)) is in
    elim (cases_Bool (has_process xs p)) [
      | inl has ↦ absurd (both_ways _ (ap not (list_any-among (λ m. m == p) xs ys among has)) parts.1)
      | inr lacks ↦ and_from (is_target a p) (not (has_process xs p)) parts.0 (not_from_false _ lacks)
    ]))

verdict_cautious : (a : Assignment) (p q : Option Proposal) → ProposesBefore p q
    → IsMoreCautious (judged a p) (judged a q)
verdict_cautious a None None before = record { silent = λ e. e; conflict = λ e. e; extra = λ e. refl }
verdict_cautious a (Some p) None before = record { silent = λ e. refl; conflict = λ e. cc; extra = λ e. refl }
verdict_cautious a None (Some q) before = absurd before
verdict_cautious a (Some p) (Some q) before = record {
  silent = λ e. e;
  conflict = lacks_still a p.members q.members before.1;
  extra = λ e. ap (λ b. b || false)
      (list_any-among (λ m. not (is_target a m)) p.members q.members before.1 e);
}

module _ (v : Values) (c : Cell) (h l : ℕ) (r : Layout) (d : Source) where
  -- the verdicts on a receiver, and on the same with the other watermarks
  abbrev AreCautious : Assignment → List Edge → ℕ → Type 0
  AreCautious a edges j =
      IsMoreCautious (judged a (receiver_proposal v c r d edges j))
      (judged a (receiver_proposal v (with_marks c h l) r d edges j))

  -- without implicit alerts the gap may be wider at both ends
  pub wider_gap : AGapWiderAtBothEndsProposesLater → (a : Assignment) (edges : List Edge) (j : ℕ)
      → v.implicit ≡ false → l ≤ c.l → c.l ≤ c.h → c.h ≤ h → AreCautious a edges j
  wider_gap wider a edges j explicit lower within higher =
      let E : ℕ → EdgeSet = λ n. early d j c.k edges v.copies n in
      let count : ℕ = length (all_deliveries edges v.copies) in
      let made : ℕ → ℕ → Bool → Option Proposal =
      λ high low implicit. proposal_of r (rule_of c.k high low implicit) E count in
      verdict_cautious a (made c.h c.l v.implicit) (made h l v.implicit)
      (subst (λ b. ProposesBefore (made c.h c.l b) (made h l b)) (sym explicit)
      (wider r c.k h c.h c.l l E count lower within higher (early_grows d j c.k edges v.copies)))

  -- what holds of each receiver holds of their numbers
  pub totals_cautious : ((a : Assignment) (edges : List Edge) (j : ℕ) → AreCautious a edges j)
      → AreMoreCautious (cell_outcome v c r d) (cell_outcome v (with_marks c h l) r d)
  totals_cautious cautious =
      let a : Assignment = drawn v c.f d r in
      let first : ℕ → Verdict = λ j. judged a (receiver_proposal v c r d (alert_list r a c.k) j) in
      let longer : ℕ → Verdict =
      λ j. judged a (receiver_proposal v (with_marks c h l) r d (alert_list r a c.k) j) in
      let each : (j : ℕ) → IsMoreCautious (first j) (longer j) = cautious a (alert_list r a c.k) in
      record {
        receivers = refl;
        conflicts = simp count_by-map (count_le _ _ (receivers_of a) (λ j. (each j).conflict));
        silent = simp count_by-map (count_le _ _ (receivers_of a) (λ j. (each j).silent));
        extra = simp count_by-map (counts-into _ _ _ _ (receivers_of a) (λ j. silent_is_not_extra a _)
            (λ j is. elim (or_cases _ _ is) [
              | inl extra ↦ (each j).extra extra
              | inr silent ↦ or_right _ _ ((each j).silent silent)
            ]));
      }

pub higher_h : AWiderGapProposesLater
    → (v : Values) (c : Cell) (h : ℕ) (r : Layout) (d : Source) (a : Assignment) (edges : List Edge) (j : ℕ)
    → c.l ≤ c.h → c.h ≤ h → AreCautious v c h c.l r d a edges j
higher_h wider v c h r d a edges j low high =
    verdict_cautious a (receiver_proposal v c r d edges j)
    (receiver_proposal v (with_marks c h c.l) r d edges j)
    (wider r c.k h c.h c.l v.implicit (λ n. early d j c.k edges v.copies n) _ low high
    (early_grows d j c.k edges v.copies))
