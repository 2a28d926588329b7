use Rattle.std.proofs.Common.{◌≡◌, ◌∙◌, List, length, refl, sym, ap, arith}
use Rattle.std.proofs.lemmas.Result.{IfOk-weaker}
use Rattle.cut_slots.specs.Report.{SlotEnd}
use Rattle.cut_hall.specs.Hall.{HallValue}
use Rattle.cut_hall.proofs.Audits.{refused_as}
use Rattle.cut_hall.proofs.hall.Hall.close.Goals as goal

pub returns-then-lacks_passes-clause-why : goal.returns-then-lacks_passes-clause-why
returns-then-lacks_passes-clause-why g c =
    let all = ap (λ (r : HallValue). r.passes) c.self.view_is in
    let fewer = c.lacks_passes.ensures.fewer c.if-lacks_passes.true in
    (omega (arith, fewer, c.self.invariant.1, all), (refl, refl))

pub returns-in_default-clause-why : goal.returns-in_default-clause-why
returns-in_default-clause-why g c =
    let all = ap (λ (r : HallValue). r.passes) c.self.view_is in
    let enough = c.lacks_passes.ensures.all c.if-lacks_passes.false in
    omega (arith, enough, c.self.invariant.1, all)

pub audit-requires-clause-own : goal.audit-requires-clause-own
audit-requires-clause-own g c =
    λ k d low. c.requires.own k d low ∙ sym (ap (λ (r : HallValue). r.id) c.self.view_is)

pub returns-clause-slots : goal.returns-clause-slots
returns-clause-slots g c =
    IfOk-weaker c.audit.result (λ (slots : List SlotEnd). slots ≡ c.in-Ok.ends.slots.items)
    (λ (slots : List SlotEnd). length slots ≡ c.args.self.slots)
    (λ slots same. ap (λ (l : List SlotEnd). length l) same ∙ c.in-Ok.ensures.slots ∙ c.self.invariant.0
    ∙ ap (λ (r : HallValue). r.slots) c.self.view_is) c.audit.ensures.same

pub returns-clause-why : goal.returns-clause-why
returns-clause-why g c =
    refused_as _ _ c.args.self c.args.passes.items c.audit.result c.self.view_is c.audit.ensures.why
