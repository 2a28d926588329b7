-- What only the crate's own clauses and proofs cite, beside specs/Words.antt.
use Rattle.std.specs.Prelude.{ℕ, ◌+◌, ◌*◌, List, slice_index}

-- the word of how many numbers of a study were drawn
abbrev pub draw_word : ℕ → ℕ
draw_word study = 16 * study

-- the word of what was counted of it
abbrev pub count_word : ℕ → ℕ
count_word study = 16 * study + 8

abbrev pub draws_at : List ℕ → ℕ → ℕ
draws_at words study = slice_index words (draw_word study)

abbrev pub count_at : List ℕ → ℕ → ℕ
count_at words study = slice_index words (count_word study)
