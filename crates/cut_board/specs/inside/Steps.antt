-- What an atomic step shows the seat that makes it.
use Rattle.std.specs.Prelude.{◌≡◌, ℕ, ◌+◌, ◌<◌, ◌≤◌, All}
use Rattle.atomic_table.specs.Table.{Step, Me}
use Rattle.cut_board.specs.declared.view.View.{View}
use Rattle.cut_board.specs.Views.{drawn_in, draws_in, amount_in, drew, counted, read, seen_in}
use Rattle.cut_board.specs.inside.Words.{draw_word, count_word}

module _ {S : Type 0} where
  -- the seat has its parts and its slots, and has drawn and counted this much more
  pub record HasDoneMore (draws amount : ℕ) (before after : Me S View) : Type 0 where
    pub slots : after.1 ≡ before.1
    pub parts : after.0.parts ≡ before.0.parts
    pub draws_are : draws_in after.0 ≡ draws_in before.0 + draws
    pub amount_is : amount_in after.0 ≡ amount_in before.0 + amount

  -- the number found at a draw word is drawn, and is greater than those that the seat drew before
  abbrev pub Drawing : Step S → Me S View → ℕ → Me S View → Type 0
  Drawing step before found after =
      HasDoneMore 1 0 before after
      × ((study : ℕ) → step.word ≡ draw_word study → (after.0 ≡ drew before.0 study found) × All
      (λ n. n < found) (drawn_in study before.0))

  -- the number added to a count word is counted
  abbrev pub Counting : Step S → Me S View → ℕ → Me S View → Type 0
  Counting step before found after =
      HasDoneMore 0 step.first before after ×
      ((study : ℕ) → step.word ≡ count_word study → after.0 ≡ counted before.0 study step.first)

  -- the number found at a count word is read, is no less than what was seen before, and is what is seen then
  abbrev pub Reading : Step S → Me S View → ℕ → Me S View → Type 0
  Reading step before found after =
      HasDoneMore 0 0 before after
      × ((study : ℕ) → step.word ≡ count_word study → (after.0 ≡ read before.0 study found) ×
      (seen_in study before.0 ≤ found) × (found ≡ seen_in study after.0))
