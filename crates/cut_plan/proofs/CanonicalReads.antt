-- The canonical text of a plan reads as the JSON value that was built of it.
use Rattle.std.proofs.Common.{◌≡◌, ◌≤◌, List, [], ◌∷◌, Some, option_and_then, sym, ap, ◌∙◌, arith}
use Rattle.std.proofs.Common.{append-nil, refl}
use Rattle.std.specs.List.{fold}
use Rattle.json.specs.Json as json
use Rattle.json.specs.Print.{print}
use Rattle.json.specs.Tree.{json_tokens, HasNumbers, MembersHaveNumbers, depth, members_depth}
use Rattle.json.proofs.Printed.Tokens.{tokens-print}
use Rattle.json.proofs.Printed.Trees.{ArePrintable-json_tokens, value-json_tokens}
use Rattle.serde_json.specs.Data.{Data, Members, put}
use Rattle.serde_json.specs.Read.{of_json, of_members, read}
use Rattle.serde_json.specs.Written.{outline, members_outline}
use Rattle.serde_json.proofs.Texts.{print-outline}
use Rattle.cut_fields.specs.declared.field.Field.{Field}
use Rattle.cut_plan.specs.Failing.{version_of}
use Rattle.cut_plan.specs.Values.{Values}
use Rattle.cut_plan.specs.Plan.{IsPlan}
use Rattle.cut_fields.specs.Fields.{name_of, fields_of}
use Rattle.cut_plan.specs.Canonical.{said, members_with, canonical_text}
use Rattle.cut_plan.specs.inside.Look.{data_of}
use Rattle.cut_plan.proofs.Tame.{AreTame, all_tame}
use Rattle.cut_plan.proofs.Writing.{with_own_fields}

-- ---- what is read of a printed value

printed_reads : (j : json.Json) (d : Data) → HasNumbers j → depth j ≤ 127 → of_json j ≡ Some d
    → read (print (json_tokens j)) ≡ Some d
printed_reads j d numbers shallow reads =
    let same = tokens-print (json_tokens j) (ArePrintable-json_tokens j numbers) ∙ sym (append-nil (json_tokens j)) in
    ap (λ ts. option_and_then of_json (option_and_then (λ p. json.if_last p.0 p.1) (json.value 127 ts))) same
    ∙ ap (λ o. option_and_then of_json (option_and_then (λ p. json.if_last p.0 p.1) o))
    (value-json_tokens j 127 [] shallow)
    ∙ reads

-- ---- the members

members_numbers : (v : Values) (fields : List Field) → AreTame v fields
    → MembersHaveNumbers (members_outline (members_with v fields))
members_numbers v [] tame = tt
members_numbers v (field ∷ fields) tame = (tame.0.has_numbers, members_numbers v fields tame.1)

members_shallow : (v : Values) (fields : List Field) → AreTame v fields
    → members_depth (members_outline (members_with v fields)) ≤ 1
members_shallow v [] tame = omega arith
members_shallow v (field ∷ fields) tame =
    grind (arith, members_shallow v fields tame.1)

members_read : (v : Values) (fields : List Field) (found : Members) → AreTame v fields
    → of_members (members_outline (members_with v fields)) found
    ≡ Some (fold (λ ms field. put (name_of field) (said v field) ms) found fields)
members_read v [] found tame = refl
members_read v (field ∷ fields) found tame = rw tame.0.reads
    (members_read v fields (put (name_of field) (said v field) found) tame.1)

-- the value that was built reads back
data_numbers : (v : Values) → IsPlan v → HasNumbers (outline (data_of v))
unfolding data_of
data_numbers v plan = members_numbers v (fields_of (version_of v.failing)) (all_tame v plan)

data_shallow : (v : Values) → IsPlan v → depth (outline (data_of v)) ≤ 127
unfolding data_of
data_shallow v plan =
    grind (arith, members_shallow, all_tame)

data_reads : (v : Values) → IsPlan v → of_json (outline (data_of v)) ≡ Some (data_of v)
unfolding data_of
data_reads v plan =
    grind (arith, members_read, all_tame, with_own_fields)

pub canonical_reads : (v : Values) → IsPlan v → read (canonical_text v) ≡ Some (data_of v)
unfolding canonical_text data_of
canonical_reads v plan =
    ap read (sym (print-outline (data_of v))) ∙ printed_reads (outline (data_of v)) (data_of v) (data_numbers v plan)
    (data_shallow v plan) (data_reads v plan)
