-- The values of JSON that the crate holds, as the definitions see them. Only its private clauses cite it.
use Rattle.std.specs.Prelude.{◌≡◌, ℕ, ◌≤◌, List, length, nat_lt, IsTrue}
use Rattle.std.specs.List.{list_all, fold}
use Rattle.cut_plan.specs.declared.limits.TheConstants.{MOST_NODES, MOST_RINGS}
use Rattle.serde_json.specs.Data.{Data, object, Members, no_members, put}
use Rattle.cut_fields.specs.Fields.{name_of, fields_of}
use Rattle.cut_fields.specs.Members.{numbers_at}
use Rattle.cut_plan.specs.Values.{Values}
use Rattle.cut_plan.specs.Failing.{version_of}
use Rattle.cut_plan.specs.Canonical.{said, members_with}
use Rattle.cut_fields.specs.declared.field.Field.{Field}
use Rattle.cut_fields.specs.declared.field.Field.TheVariants as field
use Rattle.cut_plan.specs.declared.plan_lists.Lists.{Lists}

-- each number is below a bound
abbrev pub AreBelow : ℕ → List ℕ → Type 0
AreBelow bound xs = IsTrue (list_all (λ x. nat_lt x bound) xs)

-- a plan's values as JSON
unfoldable pub data_of : Values → Data
data_of v = object (members_with v (fields_of (version_of v.failing)))

-- members, with those of some fields put in one after another
abbrev pub with_fields : Values → List Field → Members
with_fields v fields = fold (λ ms field. put (name_of field) (said v field) ms) no_members fields

-- the lists that were read of an object's fields
pub record AreListsOf (d : Data) (lists : Lists) : Type 0 where
  pub f : lists.f.items ≡ numbers_at d field.F
  pub h : lists.h.items ≡ numbers_at d field.H
  pub k : lists.k.items ≡ numbers_at d field.K
  pub l : lists.l.items ≡ numbers_at d field.L

-- lists that are no longer than a plan's can be
pub record AreShort (lists : Lists) : Type 0 where
  pub f : length lists.f.items ≤ MOST_NODES
  pub h : length lists.h.items ≤ MOST_RINGS
  pub k : length lists.k.items ≤ MOST_RINGS
  pub l : length lists.l.items ≤ MOST_RINGS
