-- How the writing of a study's table ended.
use Rattle.std.specs.Prelude.{◌≡◌, ℕ, List, take}
use Rattle.cut_wires.specs.Log.{WireLog, wrote}

-- some first bytes of a whole were written
abbrev pub WrotePrefix : List ℕ → WireLog → WireLog → Type 0
WrotePrefix whole old new = (n : ℕ) × (new ≡ wrote old (take n whole))
