use Rattle.std.proofs.Common.{◌≡◌, true}
use Rattle.std.specs.Str.{is_utf8}
use Rattle.std.proofs.lemmas.Str.{is_utf8-from_IsUtf8}
use Rattle.cut_plan.proofs.TextsOfPlans.{plan_of-text, plan_of-bytes}
use Rattle.cut_plan.proofs.plan.Plan.from_json.Goals as goal

pub returns-in-Ok-clause-ok : goal.returns-in-Ok-clause-ok
returns-in-Ok-clause-ok c =
    let same = c.in-Ok.ensures.cases.0 in
    rw (plan_of-text c.args.text.now c.if-text-gt-LONGEST_TEXT.false c.in-Ok.ensures.cases.1, ← same)
    c.read_text.ensures.ok

pub returns-in-Ok-clause-err : goal.returns-in-Ok-clause-err
returns-in-Ok-clause-err c =
    let same = c.in-Ok.ensures.cases.0 in
    rw (plan_of-text c.args.text.now c.if-text-gt-LONGEST_TEXT.false c.in-Ok.ensures.cases.1, ← same)
    c.read_text.ensures.err

pub returns-in-Err-clause-err : goal.returns-in-Err-clause-err
returns-in-Err-clause-err c = plan_of-bytes c.args.text.now c.if-text-gt-LONGEST_TEXT.false c.in-Err.ensures.cases.0

pub returns-in-Ok-clause-no_text : goal.returns-in-Ok-clause-no_text
returns-in-Ok-clause-no_text c short none =
    let text : is_utf8 c.args.text.now ≡ true = is_utf8-from_IsUtf8 c.args.text.now c.in-Ok.ensures.cases.1 in
    cc
