use Rattle.std.proofs.Common.{rules, ◌≡◌}
use Rattle.serde_json.specs.View.{view}
use Rattle.cut_fields.specs.Fields.{member_at}
use Rattle.cut_fields.proofs.Looking.{numbers_found}
use Rattle.cut_fields.proofs.json_object.items_at.Goals as goal

pub returns-in-Some : goal.returns-in-Some
returns-in-Some c =
    let member : view c.in-Some.member.now ≡ member_at (view c.args.value.now) c.args.field = search rules in
    rw (← member) (numbers_found _ _ c.elements.ensures)
