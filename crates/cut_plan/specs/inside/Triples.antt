-- How many triples of k, h and l have l ≤ h ≤ k, level by level. Only the crate's private clauses cite it.
use Rattle.std.specs.Prelude.{ℕ, List, nat_le, if◌then◌else◌}
use Rattle.std.specs.List.{sum_by, count_by}

-- how many l there are under one k and h
abbrev pub lows_under : List ℕ → ℕ → ℕ → ℕ
lows_under ls k h = if nat_le h k then count_by (λ l. nat_le l h) ls else 0

-- how many pairs of h and l there are under one k
unfoldable pub pairs_under : List ℕ → List ℕ → ℕ → ℕ
pairs_under hs ls k = sum_by (λ h. lows_under ls k h) hs

-- how many triples of k, h and l there are
abbrev pub triples : List ℕ → List ℕ → List ℕ → ℕ
triples ks hs ls = sum_by (λ k. pairs_under hs ls k) ks
