-- What is written of a plan: what it has, and its canonical text.
use Rattle.std.specs.Prelude.{ℕ, List, [], ◌∷◌, ◌++◌, length, codes}
use Rattle.std.specs.Fmt.{decimal}
use Rattle.cut_plan.specs.Values.{Values}
use Rattle.cut_plan.specs.Canonical.{canonical_text}
use Rattle.cut_plan.specs.Cells.{cells_of, trial_count}
use Rattle.cut_outcome.specs.FastRound.{quorum_of}

-- a word, a blank, a number in decimal and a line feed
abbrev pub number_line : List ℕ → ℕ → List ℕ
number_line word n = word ++ 32 ∷ (decimal n ++ 10 ∷ [])

-- how many cells and trials the plan has, and the quorum of its processes, one line each
unfoldable pub check_text : Values → List ℕ
check_text v =
    number_line (codes "cells") (length (cells_of v)) ++ number_line (codes "trials") (trial_count v)
    ++ number_line (codes "quorum") (quorum_of v.nodes)

-- its canonical text, as one line
abbrev pub canonical_line : Values → List ℕ
canonical_line v = canonical_text v ++ 10 ∷ []
