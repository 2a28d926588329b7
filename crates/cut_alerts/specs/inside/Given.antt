-- What only the crate's own clauses and proofs cite, beside specs/Given.antt.
use Rattle.std.specs.Prelude.{ℕ, ◌==◌, ◌&&◌, Bool, not, List, nat_lt, nat_le}
use Rattle.std.specs.List.{list_all, range_with_len}
use Rattle.cut_alerts.specs.Given.{times_named}

abbrev pub are_below : ℕ → List ℕ → Bool
are_below n processes = list_all (λ p. nat_lt p n) processes

abbrev pub are_sources : ℕ → List (ℕ × ℕ) → Bool
are_sources n links = list_all (λ l. nat_lt l.0 n) links

abbrev pub are_links : ℕ → List (ℕ × ℕ) → Bool
are_links n links = list_all (λ l. nat_lt l.1 n && not (l.0 == l.1)) links

abbrev pub are_named_once : ℕ → List ℕ → List ℕ → List (ℕ × ℕ) → Bool
are_named_once n targets liars links = list_all (λ p. nat_le (times_named targets liars links p) 1) (range_with_len 0 n)

abbrev pub is_legal : ℕ → List ℕ → List ℕ → List (ℕ × ℕ) → Bool
is_legal n targets liars links =
    are_below n targets && are_below n liars && are_sources n links
    && are_named_once n targets liars links && are_links n links
