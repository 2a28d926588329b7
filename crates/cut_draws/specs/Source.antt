-- Where the keys of a trial come from (RFC 8439's block function with 8 rounds, a 64-bit counter and
-- a 64-bit stream; that a trial's number is its stream is this project's profile).
use Rattle.std.specs.Prelude.{ℕ, ◌+◌, ◌*◌, ◌^◌, List}
use Rattle.rand_chacha.specs.ChaCha.{word_at, key_of}

-- the key of the cipher, and the number of the stream
pub record Source : Type 0 where
  pub key : List ℕ
  pub stream : ℕ

-- the source of a trial: the plan's seed is the key, the trial's number the stream
abbrev pub source_of : List ℕ → ℕ → Source
source_of seed trial = record { key = key_of seed; stream = trial }

-- the 32-bit word at a place of the stream, after 4 double rounds, which are 8 rounds
abbrev pub word_of : Source → ℕ → ℕ
word_of d place = word_at 4 d.key d.stream place

-- the key at a place: its word is the high half, the next word the low half
abbrev pub key_at : Source → ℕ → ℕ
key_at d place = word_of d place * 2 ^ 32 + word_of d (place + 1)
