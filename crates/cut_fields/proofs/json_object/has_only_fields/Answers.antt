use Rattle.std.proofs.Common.{◌∙◌}
use Rattle.cut_fields.proofs.Looking.{named_found}
use Rattle.cut_fields.proofs.json_object.has_only_fields.Goals as goal

pub returns-in-Some : goal.returns-in-Some
returns-in-Some c = c.are_named.ensures ∙ named_found _ _ _ c.in-Some.ensures
