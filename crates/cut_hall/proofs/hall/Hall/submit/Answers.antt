use Rattle.std.proofs.Common.{◌∙◌, Bool, IfErr, IfOk, sym, ap, subst}
use Rattle.cut_plan.specs.Values.{Values}
use Rattle.cut_hall.specs.Hall.{HallValue}
use Rattle.cut_slots.specs.Slot.{CanNotBegin}
use Rattle.cut_slots.specs.Trust.{MayBegin}
use Rattle.cut_hall.proofs.Refused.{not_begun, refused_memory}
use Rattle.cut_hall.proofs.hall.Hall.submit.Goals as goal

pub returns-in-Same-clause-base : goal.returns-in-Same-clause-base
returns-in-Same-clause-base g c =
    subst (λ (b : Bool). IfOk c.opened.result (λ o. MayBegin b c.args.plan o.base))
    (ap (λ (r : HallValue). r.is_trusted) c.self.view_is)
    (subst (λ (v : Values). IfOk c.opened.result (λ o. MayBegin g.K.CallLedger.trusts v o.base))
    c.loop-study.invariant.0 c.opened.ensures.begun)

pub begin-opened-requires-clause-trusted : goal.begin-opened-requires-clause-trusted
begin-opened-requires-clause-trusted g c = λ t.
    c.requires.trusted (sym (ap (λ (r : HallValue). r.is_trusted) c.self.view_is) ∙ t)

pub returns-in-Free-clause-base : goal.returns-in-Free-clause-base
returns-in-Free-clause-base g c =
    subst (λ (b : Bool). IfOk c.begin-opened.result (λ o. MayBegin b c.args.plan o.base))
    (ap (λ (r : HallValue). r.is_trusted) c.self.view_is)
    (subst (λ (v : Values). IfOk c.begin-opened.result (λ o. MayBegin g.K.CallLedger.trusts v o.base))
    c.loop-study.invariant.0 c.begin-opened.ensures.base)

pub returns-in-Same-clause-why : goal.returns-in-Same-clause-why
returns-in-Same-clause-why g c =
    refused_memory (g.S.Shelf.gives c.args.shelf.now c.args.plan) c.opened.result c.opened.ensures.why

pub returns-in-Free-clause-why : goal.returns-in-Free-clause-why
returns-in-Free-clause-why g c =
    let gives = g.S.Shelf.gives c.args.shelf.now in
    not_begun (gives c.args.plan) c.begin-opened.result
    (subst (λ (v : Values). IfErr c.begin-opened.result (CanNotBegin (gives v))) c.loop-study.invariant.0
    c.begin-opened.ensures.why)
