-- What a wire takes where progress is printed on it.
use Rattle.std.specs.Prelude.{◌≡◌, ◌⊎◌, ◌<◌, ◌≤◌, ◌++◌, ℕ, List, [], ◌∷◌, All, length, take}
use Rattle.std.specs.List.{flat_map}
use Rattle.std.specs.List.Sorted.{IsNonDecreasingBy}
use Rattle.cut_wires.specs.Log.{WireLog, wrote, write_failed}
use Rattle.cut_progress.specs.declared.progress_line.ProgressLine.{ProgressLine}
use Rattle.cut_progress.specs.Lines.{line_text}

-- lines of one study, one after the other: it has some trials, each line says how many, and says that no more of them
-- are held, and no fewer than the line before says
pub record AreOfStudy (all : ℕ) (lines : List ProgressLine) : Type 0 where
  pub some : 1 ≤ all
  pub each : All (λ line. (line.all ≡ all) × (line.held ≤ all)) lines
  pub rising : IsNonDecreasingBy (λ line. line.held) lines

-- a wire that took these lines, one after the other
abbrev pub with_lines : List ProgressLine → WireLog → WireLog
with_lines lines log = wrote log (flat_map line_text lines)

-- some first bytes of a line were written, and not all, when a write failed
abbrev pub IsCutOff : ProgressLine → WireLog → WireLog → Type 0
IsCutOff line old new =
    (sent : ℕ) × (sent < length (line_text line)) × (new ≡ write_failed (wrote old (take sent (line_text line))))

-- lines of one study were written; or all but the last of them, and a part of that, in which a write failed
abbrev pub HasPrinted : WireLog → WireLog → Type 0
HasPrinted old new =
    (all : ℕ) × (lines : List ProgressLine) × AreOfStudy all lines
    × ((new ≡ with_lines lines old)
    ⊎ ((whole : List ProgressLine) × (last : ProgressLine) × (lines ≡ whole ++ last ∷ [])
    × IsCutOff last (with_lines whole old) new))
