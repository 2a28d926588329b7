-- How a `Ballot` is kept: as a map from members to votes.
use Rattle.std.specs.Prelude.{ℕ, List, map}
use Rattle.cut_trial.specs.declared.ballot.Ballot.TheInside.{Inside}

-- the entries of the map
abbrev pub entries_of : Inside → List (List ℕ × ℕ)
entries_of b = map (λ e. (e.0.items, e.1)) b.votes.entries
