-- Which calls of the system are made again later.
use Rattle.std.specs.Prelude.{◌≡◌, ◌⊎◌, ℤ, pos, Option, None, Some}

-- by their number on Linux: those that failed as no memory or no descriptor was free
abbrev pub IsShortage : Option ℤ → Type 0
IsShortage None = ⊥
IsShortage (Some code) = (code ≡ pos 12) ⊎ ((code ≡ pos 23) ⊎ ((code ≡ pos 24) ⊎ (code ≡ pos 105)))
