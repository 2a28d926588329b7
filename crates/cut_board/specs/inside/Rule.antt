-- What only the crate's own clauses and proofs cite, beside specs/Rule.antt.
use Rattle.std.specs.Prelude.{◌≡◌, ℕ, ◌*◌, ◌≤◌, List, length, sum_by, All}
use Rattle.cut_board.specs.declared.view.View.{View}
use Rattle.cut_board.specs.Views.{read_in, draws_in, amount_in, drawn_by, counted_by}
use Rattle.cut_board.specs.Words.{word_count}
use Rattle.cut_board.specs.inside.Words.{draws_at, count_at}
use Rattle.cut_board.specs.Rule.{seat_limit, IsEachBelow}

-- A view beside the words. What it has read, a board has counted. It drew and counted no more than its
-- parts may, so a view of no parts has drawn and counted nothing.
pub record IsPossibleView (words : List ℕ) (v : View) : Type 0 where
  pub read : (study : ℕ) → read_in study v ≤ count_at words study
  pub draws : draws_in v ≤ v.parts * seat_limit
  pub counts : amount_in v ≤ v.parts * seat_limit

-- What the words say of each study. The numbers in all views together are those below its draw word, each once,
-- and its count word is the sum of what all views counted.
pub record AreWordsOf (words : List ℕ) (views : List View) : Type 0 where
  pub drawn : (study : ℕ) → IsEachBelow (draws_at words study) (drawn_by study views)
  pub counted : (study : ℕ) → count_at words study ≡ counted_by study views

-- The words say what the views have done. The parts of all views are the seats that there are.
pub record Kept (studies seats : ℕ) (words : List ℕ) (views : List View) : Type 0 where
  pub few : seats ≤ 129
  pub wide : length words ≡ word_count studies
  pub parts : sum_by (λ v. v.parts) views ≡ seats
  pub done : AreWordsOf words views
  pub sound : All (IsPossibleView words) views
