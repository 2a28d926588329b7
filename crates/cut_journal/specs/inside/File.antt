-- What only the crate's own clauses and proofs cite, beside specs/File.antt.
use Rattle.std.specs.Prelude.{ℕ, ◌++◌, List, [], ◌∷◌, take, drop, Bool, bytes_eq}
use Rattle.sha2.specs.Sha256.{sha256}
use Rattle.cut_plan.specs.Failing.{version_of}
use Rattle.cut_plan.specs.Values.{Values}
use Rattle.cut_journal.specs.File.{closed_gate, header_of, header_digest, numbers_length}

-- what stands in a new study's file after its gate: the header, its digest, and the closed gate of the first
-- slip
unfoldable pub rest_of : Values → List ℕ
rest_of v = header_of v ++ header_digest v ++ closed_gate ∷ []

-- whether the digest that stands after a slip's numbers is theirs
abbrev pub has_digest : Values → List ℕ → Bool
has_digest v body =
    bytes_eq (sha256 (header_digest v ++ take (numbers_length (version_of v.failing)) body))
    (drop (numbers_length (version_of v.failing)) body)
