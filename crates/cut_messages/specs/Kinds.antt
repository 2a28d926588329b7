-- The kinds of messages: their letters, which way they go, and how long their payloads are (this
-- project's format).
use Rattle.std.specs.Prelude.{ℕ, ◌==◌, Bool, true, List, [], ◌∷◌, Option, Some, None}
use Rattle.std.specs.List.{find}
use Rattle.cut_messages.specs.declared.kind.Kind.{Kind}
use Rattle.cut_messages.specs.declared.kind.Kind.TheVariants as kind
use Rattle.cut_messages.specs.declared.side.Side.{Side}
use Rattle.cut_messages.specs.declared.side.Side.TheVariants.{Requests, Replies}

-- the letters R, S, Q, T, Z and E
abbrev pub byte_of : Kind → ℕ
byte_of kind.Submit = 82
byte_of kind.Count = 83
byte_of kind.Quit = 81
byte_of kind.Row = 84
byte_of kind.Done = 90
byte_of kind.Fault = 69

-- the kinds that go each way
abbrev pub kinds_of : Side → List Kind
kinds_of Requests = kind.Submit ∷ kind.Count ∷ kind.Quit ∷ []
kinds_of Replies = kind.Row ∷ kind.Done ∷ kind.Count ∷ kind.Fault ∷ []

-- the kind that a byte stands for
abbrev pub kind_at : Side → ℕ → Option Kind
kind_at side byte = find (λ kind. byte_of kind == byte) (kinds_of side)

-- the length of the payloads of a kind, if they all have one
abbrev pub length_of : Side → Kind → Option ℕ
length_of side kind.Submit = None
length_of side kind.Row = None
length_of side kind.Quit = Some 0
length_of side kind.Done = Some 0
length_of side kind.Fault = Some 2
length_of Requests kind.Count = Some 4
length_of Replies kind.Count = Some 8

-- whether a payload may have this many bytes, where those of its kind have these
abbrev pub fits : Option ℕ → ℕ → Bool
fits None n = true
fits (Some right) n = n == right
