-- Which slips a study may begin with.
use Rattle.std.specs.Prelude.{◌≡◌, ℕ, Bool, true, List}
use mathlib.Core.HLevel.{×_prop}
use Rattle.std.proofs.Props.{props}
use Rattle.cut_plan.specs.Values.{Values}
use Rattle.cut_fields.specs.declared.version.Version.{Version}
use Rattle.cut_fields.specs.declared.version.Version.TheVariants.{One, Two}
use Rattle.cut_outcome.specs.Possible.{IsSettledBy}
use Rattle.cut_ledger.specs.declared.slip.Slip.{Slip}
use Rattle.cut_ledger.specs.Slips.{AreGood}
use Rattle.cut_ledger.specs.World.{AreTrue}

-- good ones, and in a trusted hall true ones
pub record MayBegin (is_trusted : Bool) (v : Values) (base : List Slip) : Type 0 where
  pub good : AreGood v base
  pub true_if : is_trusted ≡ true → AreTrue v base

-- what is settled is so in one way at most
pub IsSettledBy-prop : (version : Version) (proposing deliveries settled : ℕ)
    → IsProp (IsSettledBy version proposing deliveries settled)
IsSettledBy-prop One proposing deliveries settled = search props
IsSettledBy-prop Two proposing deliveries settled = ×_prop (search props) (search props)

pub ruleset begun_props = (props, IsSettledBy-prop)
