-- What is known of every accepted plan.
use Rattle.std.specs.Prelude.{◌≡◌, ℕ, ◌+◌, ◌≤◌, ◌<◌, ◌&&◌, List, [], ◌∷◌, length, Bool, true, nat_le, nat_lt, IsTrue}
use Rattle.std.specs.Prelude.{unwrap_or}
use Rattle.std.specs.List.{list_all}
use Rattle.cut_plan.specs.declared.limits.TheConstants.{MOST_CELLS, MOST_COPIES, MOST_NODES, MOST_REPEATS, MOST_RINGS}
use Rattle.cut_plan.specs.Failing.{deaf_in}
use Rattle.cut_plan.specs.Values.{Values}
use Rattle.cut_plan.specs.Cells.{cells_of, largest}

-- a number that is at least low and at most high
abbrev pub is_within : ℕ → ℕ → ℕ → Bool
is_within low high n = nat_le low n && nat_le n high

-- each number is below the next
abbrev pub is_rising : List ℕ → Bool
is_rising [] = true
is_rising (x ∷ []) = true
is_rising (x ∷ y ∷ rest) = nat_lt x y && is_rising (y ∷ rest)

-- a list of ring numbers or watermarks: not empty, strictly ascending, each 1 to 32
pub record IsScale (xs : List ℕ) : Type 0 where
  pub some : 0 < length xs
  pub range : IsTrue (list_all (is_within 1 MOST_RINGS) xs)
  pub rising : IsTrue (is_rising xs)

-- an accepted plan: every value in its range, at least one cell, and no more of anything than allowed
pub record IsPlan (v : Values) : Type 0 where
  pub some_copies : 1 ≤ v.copies
  pub few_copies : v.copies ≤ MOST_COPIES
  pub deaf : unwrap_or (deaf_in v.failing) 0 ≤ MOST_NODES
  pub ks : IsScale v.k
  pub hs : IsScale v.h
  pub ls : IsScale v.l
  pub most_rings : largest v.k ≤ MOST_RINGS
  pub some_ring : 1 ≤ largest v.k
  pub some_f : 0 < length v.f
  pub fs : IsTrue (list_all (λ f. nat_lt f v.nodes) v.f)
  pub fs_rising : IsTrue (is_rising v.f)
  pub liars : v.liars ≤ MOST_NODES
  pub links : v.links ≤ MOST_NODES
  pub some_nodes : 2 ≤ v.nodes
  pub few_nodes : v.nodes ≤ MOST_NODES
  pub some_repeats : 1 ≤ v.repeats
  pub few_repeats : v.repeats ≤ MOST_REPEATS
  pub seed_length : length v.seed ≡ 32
  pub seed_bytes : IsTrue (list_all (λ b. nat_lt b 256) v.seed)
  pub some_cell : 0 < length (cells_of v)
  pub few_cells : length (cells_of v) ≤ MOST_CELLS
  pub faults_fit : largest v.f + v.liars + v.links ≤ v.nodes
