-- Laws of places.
use Rattle.std.specs.Prelude.{◌≡◌, ℕ, List}
use Rattle.cut_files.specs.Place.{Place, StaysElsewhere}

-- if a call, or several in turn, changed nothing elsewhere, and at its own path there is what there was, then nothing
-- is changed at any path
abbrev pub StaysEverywhere : Type 0
StaysEverywhere =
    (path : List ℕ) (old new : List ℕ → Place) → StaysElsewhere path old new → new path ≡ old path
    → (other : List ℕ) → new other ≡ old other
