-- What the words of a closed board say. Only the crate's private clauses cite it.
use Rattle.std.specs.Prelude.{ℕ, List}
use Rattle.cut_board.specs.declared.totals.StudyTotals.{StudyTotals}
use Rattle.cut_board.specs.inside.Words.{draws_at, count_at}

-- what the words say of a study
abbrev pub words_of_study : List ℕ → ℕ → StudyTotals
words_of_study words study = record { draws = draws_at words study; count = count_at words study }
