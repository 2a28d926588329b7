-- What the crate's look-ups find, beside the definitions.
use Rattle.std.proofs.Common.{◌≡◌, List, [], ◌∷◌, map, ◌&&◌, Some, String, Global, string_bytes, refl, ap, sym}
use Rattle.std.specs.List.{list_all}
use Rattle.std.specs.Map.{keys_of}
use Rattle.serde_json.specs.Data.{Data}
use Rattle.serde_json.specs.Find.{as_array, as_object}
use Rattle.serde_json.specs.View.{view, items_view, members_view}
use Rattle.serde_json.specs.declared.value.Value.{Value}
use Rattle.cut_fields.specs.declared.version.Version.{Version}
use Rattle.cut_fields.specs.Fields.{list_of_items, keys_of_members, elements, number_in}
use Rattle.cut_fields.specs.Members.{keys, is_named}
use Rattle.cut_fields.specs.Members.{item_numbers}

pub list_of_items-items_view : (vs : List Value) → list_of_items (items_view vs) ≡ map view vs
list_of_items-items_view [] = refl
list_of_items-items_view (v ∷ vs) = ap (λ ds. view v ∷ ds) (list_of_items-items_view vs)

pub elements_found : (d : Data) (vs : List Value) → Some (items_view vs) ≡ as_array d → map view vs ≡ elements d
elements_found d vs e = rw (← e) (sym (list_of_items-items_view vs))

pub map_twice : {A B C : Type 0} (f : B → C) (g : A → B) (xs : List A) → map f (map g xs) ≡ map (λ x. f (g x)) xs
map_twice f g [] = refl
map_twice f g (x ∷ xs) = ap (λ ys. f (g x) ∷ ys) (map_twice f g xs)

pub numbers_found : (ds : List Data) (vs : List Value) → map view vs ≡ ds → item_numbers vs ≡ map number_in ds
numbers_found ds vs e = rw (← e) (sym (map_twice number_in view vs))

named_members : (version : Version) (es : List (String Global × Value))
    → list_all (λ key. is_named version (string_bytes key)) (keys_of es)
    ≡ list_all (is_named version) (keys_of_members (members_view es))
named_members version [] = refl
named_members version (e ∷ es) = ap (λ b. is_named version (string_bytes e.0) && b) (named_members version es)

pub named_found : (version : Version) (d : Data) (es : List (String Global × Value)) → Some (members_view es)
    ≡ as_object d
    → list_all (λ key. is_named version (string_bytes key)) (keys_of es) ≡ list_all (is_named version) (keys d)
named_found version d es e = rw (← e) (named_members version es)
