-- The rings that lists give.
use Rattle.std.specs.Prelude.{ℕ, ◌==◌, List, map}
use Rattle.std.specs.List.{position_or_len, range_with_len}
use Rattle.cut_rings.specs.Layout.{Layout}

-- the position of p on a listed ring: its index in the list
abbrev pub listed_position : List ℕ → ℕ → ℕ
listed_position list p = position_or_len (λ q. q == p) list

-- the rings of n processes that stand in lists
abbrev pub listed_layout : ℕ → List (List ℕ) → Layout
listed_layout n lists = record {
  nodes = n;
  positions = map (λ list. map (λ p. listed_position list p) (range_with_len 0 n)) lists;
}
