-- What a line of progress says.
use Rattle.std.specs.Prelude.{ℕ, List, [], ◌∷◌, ◌++◌, codes, Option, Some, None}
use Rattle.std.specs.Fmt.{decimal}
use Rattle.cut_progress.specs.declared.progress_line.ProgressLine.{ProgressLine}

-- for how many seconds the study is still to be run, if that is estimated
abbrev pub left_words : Option ℕ → List ℕ
left_words None = []
left_words (Some seconds) = codes ", about " ++ decimal seconds ++ codes " s left"

-- the line as it is printed, with its line feed
unfoldable pub line_text : ProgressLine → List ℕ
line_text line =
    codes "cutlab: " ++ decimal line.held ++ codes " of " ++ decimal line.all ++ codes " trials, "
    ++ decimal line.seconds ++ codes " s" ++ left_words line.left ++ 10 ∷ []
