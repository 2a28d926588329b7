-- What only the crate's own clauses and proofs cite, beside specs/Listed.antt.
use Rattle.std.specs.Prelude.{ℕ, ◌==◌, ◌&&◌, Bool, List, length}
use Rattle.std.specs.List.{list_all, list_any, range_with_len}

-- whether a list holds each of the first n processes
abbrev pub has_all : ℕ → List ℕ → Bool
has_all n list = list_all (λ p. list_any (λ q. q == p) list) (range_with_len 0 n)

-- whether it holds each once: it is no longer
abbrev pub is_order : ℕ → List ℕ → Bool
is_order n list = (length list == n) && has_all n list
