-- What only the crate's own clauses and proofs cite of the line of a refused file.
use Rattle.std.specs.Prelude.{◌≡◌, ◌+◌, ◌++◌, ℕ, Bool, true, false, List, ◌∷◌, length, codes, []}
use Rattle.std.specs.Fmt.{decimal}
use Rattle.cut_wires.specs.Log.{WireLog, wrote}
use Rattle.cut_jobs.specs.Sending.{IsCutShort}

-- what comes before the path in the line of a refused file, and after it
abbrev pub file_head : ℕ → List ℕ
file_head place = codes "cutlab: file " ++ decimal place ++ codes ": \""

abbrev pub file_end : List ℕ
file_end = codes "\"" ++ 10 ∷ []

-- a text was written whole, or cut short by a write that failed
abbrev pub WritesWhole : Bool → List ℕ → WireLog → WireLog → Type 0
WritesWhole true text old new = new ≡ wrote old text
WritesWhole false text old new = (sent : ℕ) × IsCutShort text sent old new

-- a path has a place, from 1, among others
pub record IsFileAt (paths : List (List ℕ)) (place : ℕ) (path : List ℕ) : Type 0 where
  pub before : List (List ℕ)
  pub after : List (List ℕ)
  pub all : paths ≡ before ++ path ∷ after
  pub place_is : place ≡ length before + 1
