use Rattle.std.proofs.Common.{◌≡◌, is_some, true, sym, ◌∙◌}
use Rattle.std.proofs.lemmas.List.Folds.{list_all-map}
use Rattle.serde_json.specs.View.{view}
use Rattle.serde_json.specs.Find.{as_array}
use Rattle.cut_fields.specs.Fields.{whole_number}
use Rattle.cut_fields.proofs.json_object.is_of.Goals as goal

pub returns-then-is_array : goal.returns-then-is_array
returns-then-is_array c =
    let array : is_some (as_array (view c.args.value.now)) ≡ true = sym c.is_array.ensures ∙ c.if-is_array.true in
    rw (c.in-Numbers.is, array, ← c.elements.ensures)
    (c.are_numbers.ensures ∙ sym (list_all-map (λ x. is_some (whole_number x)) view c.elements.result.now))
