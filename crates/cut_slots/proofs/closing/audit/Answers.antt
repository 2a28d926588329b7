use Rattle.std.proofs.Common.{◌≡◌, ℕ, ◌∙◌, inl, inr, List, Some, get_or, sym, ap, arith}
use Rattle.std.specs.Prelude.{slice_get}
use Rattle.std.proofs.lemmas.Bool.{cases_lt}
use Rattle.std.proofs.lemmas.Option.{slice_get_within, get_or_from_slice_get}
use Rattle.cut_board.specs.declared.totals.StudyTotals.{StudyTotals}
use Rattle.cut_slots.specs.Report.{SlotEnd, accepted_recorded}
use Rattle.cut_slots.proofs.closing.audit.Goals as goal

abbrev no_totals : StudyTotals
no_totals = record { draws = 0; count = 0 }

-- what stands at a place of the list that is looked at
shown_at : (shown totals : List StudyTotals) (k : ℕ) (t : StudyTotals) → shown ≡ totals → slice_get totals k ≡ Some t
    → (get_or shown k no_totals).count ≡ t.count
shown_at shown totals k t same at =
    ap (λ (x : StudyTotals). x.count)
    (ap (λ (ts : List StudyTotals). get_or ts k no_totals) same ∙ get_or_from_slice_get totals k t no_totals at)

pub returns-then-not-agrees-clause-differs : goal.returns-then-not-agrees-clause-differs
returns-then-not-agrees-clause-differs c =
    λ t at. sym (shown_at c.as_slice.result.now c.args.totals.now c.loop-study.study t c.as_slice.ensures at)

pub loop-study-preserved : goal.loop-study-preserved
loop-study-preserved c =
    let study : ℕ = c.loop-study.study in
    let slots : List SlotEnd = c.args.slots.items in
    λ k s t low at reported. elim (cases_lt k study) [
      | inl less ↦ c.loop-study.invariant k s t less at reported
      | inr last ↦ (
          let here : k ≡ study = omega (arith, low, last) in
          let count = shown_at c.as_slice.result.now c.args.totals.now study t c.as_slice.ensures
          (ap (λ i. slice_get c.args.totals.now i) (sym here) ∙ reported) in
          let place : slice_get slots study ≡ Some s = ap (λ i. slice_get slots i) (sym here) ∙ at in
          let seen : c.index.result.now ≡ s =
          c.index.ensures ∙ get_or_from_slice_get slots study s (c.index.result.now) place in
          sym count ∙ c.agrees.ensures.yes c.if-not-agrees.false
          ∙ ap (λ (x : SlotEnd). accepted_recorded x.history) seen)
    ]

pub returns-clause-audited : goal.returns-clause-audited
returns-clause-audited c =
    λ study s t at reported.
    let within = slice_get_within c.args.slots.items study s at in
    let last = c.loop-study-test.false in
    let end = c.len-study-end.ensures in
    let auto = c.loop-study.auto.study-end in
    c.loop-study.invariant study s t (omega (arith, within, last, end, auto)) at reported
