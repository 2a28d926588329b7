use Rattle.std.proofs.Common.{◌≡◌, take}
use Rattle.serde_json.specs.View.{members_view}
use Rattle.cut_plan.specs.inside.Look.{with_fields}
use Rattle.cut_plan.proofs.plan.Plan.to_value.Given as goal

abbrev pub invariant-loop-field : goal.invariant-loop-field
invariant-loop-field l = members_view l.members.entries ≡ with_fields l.self (take l.field-index l.field-items)
