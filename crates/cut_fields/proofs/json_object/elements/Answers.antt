use Rattle.std.proofs.Common.{◌∙◌, ap, map}
use Rattle.serde_json.specs.View.{view}
use Rattle.cut_fields.proofs.Looking.{elements_found}
use Rattle.cut_fields.proofs.json_object.elements.Goals as goal

pub returns-in-Some : goal.returns-in-Some
returns-in-Some c = ap (map view) c.as_slice.ensures.value ∙ elements_found _ _ c.in-Some.ensures
