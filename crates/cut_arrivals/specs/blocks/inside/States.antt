-- What four blocks of a trial begin with.
use Rattle.std.specs.Prelude.{◌≡◌, ℕ, ◌<◌, List}
use Rattle.rand_chacha.specs.Block.{initial_state}
use Rattle.rand_chacha.specs.Lanes.{lane}
use Rattle.cut_draws.specs.Source.{Source}

-- in each lane is the state of block 0 of a source before the first round
abbrev pub AreFirstStates : Source → List (List ℕ) → Type 0
AreFirstStates d states = (j : ℕ) → j < 4 → lane j states ≡ initial_state d.key 0 d.stream
