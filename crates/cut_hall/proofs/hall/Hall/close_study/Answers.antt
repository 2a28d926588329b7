use Rattle.std.proofs.Common.{◌≡◌, ◌∙◌, List, [], ◌∷◌, Option, refl, sym, ap, subst}
use Rattle.std.proofs.lemmas.Result.{IfOk-weaker}
use Rattle.cut_slots.specs.Report.{SlotEnd}
use Rattle.cut_slots.specs.Start.{StudyStart, AreOpenedWith}
use Rattle.cut_hall.specs.Hall.{HallValue}
use Rattle.cut_hall.proofs.Openings.{none_opened, one_more_opened}
use Rattle.cut_hall.proofs.hall.Hall.close_study.Goals as goal

pub audit_one-requires-clause-own : goal.audit_one-requires-clause-own
audit_one-requires-clause-own g c =
    λ k d low. c.requires.own k d low ∙ sym (ap (λ (r : HallValue). r.id) c.self.view_is)

pub returns-clause-opened : goal.returns-clause-opened
returns-clause-opened g c =
    let slot : SlotEnd = c.end-report.result.report in
    IfOk-weaker c.audit_one.result (λ (slots : List SlotEnd). slots ≡ slot ∷ [])
    (λ (slots : List SlotEnd). AreOpenedWith c.args.self.opening slots)
    (λ slots same. subst (λ (o : Option StudyStart). AreOpenedWith o slots)
    (ap (λ (r : HallValue). r.opening) c.self.view_is)
    (one_more_opened g.K.CallLedger.opening [] slots slot same (none_opened g.K.CallLedger.opening [] refl)
    c.end-report.ensures.opened))
    c.audit_one.ensures.same
