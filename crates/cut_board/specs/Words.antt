-- Where a board's words stand: two for each study, each 64 bytes from the next.
use Rattle.std.specs.Prelude.{ℕ, ◌*◌}

-- how many words there are for that many studies
abbrev pub word_count : ℕ → ℕ
word_count studies = 16 * studies
