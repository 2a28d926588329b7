-- The two versions of a plan's format, by their numbers. (This project's profile.)
use Rattle.std.specs.Prelude.{ℕ, nat_eq, if◌then◌else◌}
use Rattle.cut_fields.specs.declared.version.Version.{Version}
use Rattle.cut_fields.specs.declared.version.Version.TheVariants.{One, Two}

-- the number that stands for a version in a plan
abbrev pub version_number : Version → ℕ
version_number One = 1
version_number Two = 2

-- the version by whose fields an object with this number is checked
abbrev pub version_by : ℕ → Version
version_by n = if nat_eq n 2 then Two else One
