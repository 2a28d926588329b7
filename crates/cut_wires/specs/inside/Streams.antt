-- What only the crate's own clauses and proofs cite, beside specs/Streams.antt.
use Rattle.std.specs.Prelude.{ℕ, ◌<◌, List, Option, IfSome}
use Rattle.std.specs.Io.KnownBytes.{Appends, Consumes, IsAtEnd}
use Rattle.cut_wires.specs.Streams.{given_of, taken_of}

-- what passed is what the reader gave and the writer took, if that is known; and an end that was given is the reader's
pub record IsFollowed (had has held holds : Option (List ℕ)) (ends : ℕ) : Type 0 where
  pub read : Consumes had has (given_of had has)
  pub written : Appends held holds (taken_of held holds)
  pub ended : 0 < ends → IfSome had (λ _. IsAtEnd has)
