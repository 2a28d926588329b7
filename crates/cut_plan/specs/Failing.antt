-- What a plan says of how its targets fail, and the version of the plans that say it. (This project's profile.)
use Rattle.std.specs.Prelude.{ℕ, Option, Some, None}
use Rattle.cut_plan.specs.declared.faults.Faults.{Faults}
use Rattle.cut_plan.specs.declared.failing.Failing.{Failing}
use Rattle.cut_plan.specs.declared.failing.Failing.TheVariants.{Alike, Mixed}
use Rattle.cut_fields.specs.declared.version.Version.{Version}
use Rattle.cut_fields.specs.declared.version.Version.TheVariants.{One, Two}

-- the version of the plans that say this of their targets
abbrev pub version_of : Failing → Version
version_of (Alike faults) = One
version_of (Mixed deaf) = Two

-- the way in which all targets fail, if it is the same for all
abbrev pub faults_in : Failing → Option Faults
faults_in (Alike faults) = Some faults
faults_in (Mixed deaf) = None

-- how many targets are deaf, if the plan says a number
abbrev pub deaf_in : Failing → Option ℕ
deaf_in (Alike faults) = None
deaf_in (Mixed deaf) = Some deaf
