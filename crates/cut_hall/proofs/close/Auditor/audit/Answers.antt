use Rattle.std.proofs.Common.{◌≡◌, ℕ, ◌<◌, ◌∙◌, List, length, Some, sym, ap, subst, arith}
use Rattle.std.specs.Prelude.{slice_get}
use Rattle.std.proofs.lemmas.Option.{slice_get_within}
use Rattle.cut_board.specs.declared.totals.StudyTotals.{StudyTotals}
use Rattle.cut_board.specs.Names.{studies_of, views_of}
use Rattle.cut_board.specs.Totals.{total_of}
use Rattle.cut_hall.specs.Hall.{HallValue}
use Rattle.cut_slots.specs.Report.{SlotEnd, calls_in_all}
use Rattle.cut_slots.specs.Start.{AreOpenedWith}
use Rattle.cut_hall.proofs.Audits.{total_at, totals_many}
use Rattle.cut_hall.proofs.close.Auditor.audit.Goals as goal

pub take_apart-requires-clause-own : goal.take_apart-requires-clause-own
take_apart-requires-clause-own g c =
    λ k d low. c.requires.own k d low ∙ sym (ap (λ (r : HallValue). r.id) c.self.view_is)

pub take_apart-requires-clause-some : goal.take_apart-requires-clause-some
take_apart-requires-clause-some g c =
    let all = ap (λ (r : HallValue). r.passes) c.self.view_is in
    omega (arith, c.requires.enough, all, c.self.invariant.3)

pub audit-requires-clause-counted : goal.audit-requires-clause-counted
audit-requires-clause-counted g c =
    let n : ℕ = studies_of c.self.inside.board in
    let views = views_of c.in-Ok.parts.seats.items in
    let rooms = ap (λ (r : HallValue). r.slots) c.self.view_is in
    let reported = ap (λ (ts : List StudyTotals). length ts) c.in-Ok-finish.ensures.totals in
    let all = totals_many n views in
    omega (arith, c.requires.slots, rooms, reported, all)

pub audit-requires-clause-few : goal.audit-requires-clause-few
audit-requires-clause-few g c =
    let n : ℕ = studies_of c.self.inside.board in
    let views = views_of c.in-Ok.parts.seats.items in
    let reported = ap (λ (ts : List StudyTotals). length ts) c.in-Ok-finish.ensures.totals in
    let few = c.self.inside.board.few in
    let all = totals_many n views in
    omega (arith, reported, all, few)

pub returns-in-Ok-audit-clause-audit : goal.returns-in-Ok-audit-clause-audit
returns-in-Ok-audit-clause-audit g c =
    λ study s at.
    let n : ℕ = studies_of c.self.inside.board in
    let views = views_of c.in-Ok.parts.seats.items in
    let slots : List SlotEnd = c.args.ends.slots.items in
    let here : slice_get slots study ≡ Some s =
    ap (λ (l : List SlotEnd). slice_get l study) (sym c.in-Ok-audit.ensures.same) ∙ at in
    let low : study < n =
    (let within = slice_get_within slots study s here in
    let rooms = ap (λ (r : HallValue). r.slots) c.self.view_is in omega (arith, within, c.requires.slots, rooms)) in
    let reported : slice_get c.in-Ok-finish.totals study ≡ Some (total_of views study) =
    ap (λ (ts : List StudyTotals). slice_get ts study) c.in-Ok-finish.ensures.totals ∙ total_at n views study low in
    sym (c.in-Ok.ensures.parts.counted study) ∙ c.in-Ok-audit.ensures.audited study s (total_of views study) here
    reported

pub returns-clause-why : goal.returns-clause-why
returns-clause-why g c =
    let n : ℕ = studies_of c.self.inside.board in
    let views = views_of c.in-Ok.parts.seats.items in
    let study : ℕ = c.in-Err.mismatch.study in
    let slots : List SlotEnd = c.args.ends.slots.items in
    let within = c.in-Err.ensures.within in
    let rooms = ap (λ (r : HallValue). r.slots) c.self.view_is in
    let low : study < n = omega (arith, within, c.requires.slots, rooms) in
    let reported : slice_get c.in-Ok-finish.totals study ≡ Some (total_of views study) =
    ap (λ (ts : List StudyTotals). slice_get ts study) c.in-Ok-finish.ensures.totals ∙ total_at n views study low in
    let report : c.in-Err.mismatch.report ≡ slots = c.in-Err.ensures.report in (
      c.requires.enough,
      omega (arith, ap (λ (l : List SlotEnd). length l) report, c.requires.slots),
      omega (arith, low, rooms),
      sym (c.in-Err.ensures.differs (total_of views study) reported) ∙ c.in-Ok.ensures.parts.counted study,
      c.in-Err.mismatch.differ,
      ap calls_in_all report ∙ sym c.requires.kept.1 ∙ sym c.compare.ensures ∙ c.in-Ok.ensures.parts.amount_is,
      subst (λ (l : List SlotEnd). AreOpenedWith c.args.self.opening l) (sym report) c.requires.opened,
    )
