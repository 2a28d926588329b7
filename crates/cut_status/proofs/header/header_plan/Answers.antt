use Rattle.std.proofs.Common.{◌≡◌, ◌∙◌, List, ℕ, true, sym, subst}
use Rattle.std.proofs.lemmas.Result.{IfOk-weaker, IfErr-weaker}
use Rattle.cut_plan.specs.Canonical.{canonical_text}
use Rattle.cut_plan.specs.Values.{Values}
use Rattle.cut_journal.specs.Reading.{says_plan}
use Rattle.cut_status.specs.Study.{IsStatusFault}
use Rattle.cut_status.specs.inside.Study.{IsOfNoPlan}
use Rattle.cut_status.proofs.Headers.{text_says}
use Rattle.cut_status.proofs.Readings.{no_header, no_plan}
use Rattle.cut_status.proofs.header.header_plan.Goals as goal

pub returns-in-Some-clause-said : goal.returns-in-Some-clause-said
returns-in-Some-clause-said c =
    let bytes : List ℕ = c.args.bytes.now in
    IfOk-weaker c.canonical_plan.result (λ (v : Values). c.in-Some.text.now ≡ canonical_text v)
    (λ (v : Values). says_plan v bytes ≡ true)
    (λ v same. text_says v bytes c.in-Some.ensures.within (sym c.in-Some.ensures.text ∙ same))
    c.canonical_plan.ensures.text

pub returns-in-Some-clause-err : goal.returns-in-Some-clause-err
returns-in-Some-clause-err c =
    let bytes : List ℕ = c.args.bytes.now in
    IfErr-weaker c.canonical_plan.result (IsOfNoPlan c.in-Some.text.now) (IsStatusFault bytes)
    (λ e none. no_plan bytes e c.requires
    (subst (λ (text : List ℕ). IsOfNoPlan text e) c.in-Some.ensures.text none)) c.canonical_plan.ensures.err

pub returns-in-None-clause-err : goal.returns-in-None-clause-err
returns-in-None-clause-err c = no_header c.args.bytes.now c.requires c.in-None.ensures.none
