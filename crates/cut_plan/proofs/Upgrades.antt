-- The upgrade of a plan: it is a plan, and as many targets of each cell are deaf.
use Rattle.std.proofs.Common.{◌≡◌, ℕ, arith}
use Rattle.std.specs.List.{Contains}
use Rattle.cut_plan.specs.Values.{Values}
use Rattle.cut_plan.specs.Targets.{deaf_of, upgraded}
use Rattle.cut_plan.specs.Plan.{IsPlan}
use Rattle.cut_plan.proofs.Every.{every-get_or, every_below_fold}

pub upgraded_is_plan : (v : Values) → IsPlan v → IsPlan (upgraded v)
upgraded_is_plan v plan =
    grind arith

pub upgraded_deaf : (v : Values) (f : ℕ) → Contains v.f f → deaf_of (upgraded v) f ≡ deaf_of v f
upgraded_deaf v f listed =
    grind (arith, every-get_or, every_below_fold)
