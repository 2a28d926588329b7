use Rattle.std.proofs.Common.{◌≡◌, ◌∙◌, ap, false}
use Rattle.std.proofs.lemmas.Result.{IfOk-weaker}
use Rattle.serde_json.specs.View.{view}
use Rattle.serde_json.specs.Written.{has_float, compact_text}
use Rattle.cut_plan.specs.Canonical.{canonical_text}
use Rattle.cut_plan.specs.inside.Look.{data_of}
use Rattle.cut_plan.proofs.Writing.{no_floats}
use Rattle.cut_plan.proofs.plan.Plan.canonical.Goals as goal

pub returns : goal.returns
unfolding canonical_text data_of
returns c =
    let same = c.in_ok-to_value.ensures.value in
    let none : has_float (view c.in_ok-to_value.field-0) ≡ false = ap has_float same
    ∙ no_floats c.args.self.now c.in_ok-to_value.ensures.plan in
    record { text = IfOk-weaker c.to_vec.result _ _ (λ t e. e none ∙ ap compact_text same) c.to_vec.ensures.text }
