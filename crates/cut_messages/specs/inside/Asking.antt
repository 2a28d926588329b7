-- What only the crate's own clauses and proofs cite, beside specs/Asking.antt.
use Rattle.std.specs.Prelude.{◌≡◌, ℕ, List}
use Rattle.std.specs.Prelude.{Result, Ok, Err, ⊤}
use Rattle.cut_wires.specs.Log.{WireLog, wrote}
use Rattle.cut_messages.specs.Asking.{request, IsCutOff}

-- the request was sent, or a write of it failed
abbrev pub Requests : {E : Type 0} → Result ⊤ E → List ℕ → WireLog → WireLog → Type 0
Requests (Ok done) plan old new = new ≡ wrote old (request plan)
Requests (Err fault) plan old new = IsCutOff (request plan) old new
