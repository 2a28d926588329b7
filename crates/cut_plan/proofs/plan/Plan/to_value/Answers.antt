use Rattle.std.proofs.Common.{◌∙◌, ap}
use Rattle.serde_json.specs.Data.{object}
use Rattle.serde_json.proofs.Views.{view-Object}
use Rattle.cut_plan.specs.Failing.{version_of}
use Rattle.cut_fields.specs.Fields.{fields_of}
use Rattle.cut_plan.specs.inside.Look.{with_fields}
use Rattle.cut_plan.proofs.Writing.{with_own_fields, take_fields}
use Rattle.cut_plan.proofs.plan.Plan.to_value.Goals as goal

pub returns-clause-value : goal.returns-clause-value
returns-clause-value c =
    let v = c.args.self.now in
    let whole = take_fields (version_of v.failing) c.fields_of-fields.result c.loop-field.field-index
    (c.fields_of-fields.ensures ∙ ap fields_of c.version.ensures.value) c.loop-field-test.false in
    view-Object c.loop-field.members ∙ ap object (c.loop-field.invariant ∙ ap (with_fields v) whole) ∙ with_own_fields v
