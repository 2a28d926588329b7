-- The rings of a study as contracts see them, and who observes whom. (The Rapid paper's section on
-- the monitoring overlay: on each ring a process observes the one that follows it.)
use Rattle.std.specs.Prelude.{◌≡◌, ℕ, ◌+◌, ◌%◌, ◌==◌, ◌<◌, ◌≤◌, List, [], length, slice_index, slice_index_or}
use Rattle.std.specs.List.{position_or_len}
use Rattle.cut_plan.specs.declared.limits.TheConstants.{MOST_NODES}

-- how many processes there are, and for each ring the position of each process
pub record Layout : Type 0 where
  pub nodes : ℕ
  pub positions : List (List ℕ)

-- the positions of the processes on a ring
abbrev pub positions_on : Layout → ℕ → List ℕ
positions_on r ring = slice_index_or r.positions ring []

-- the position of process p on a ring
abbrev pub position_of : Layout → ℕ → ℕ → ℕ
position_of r ring p = slice_index (positions_on r ring) p

-- process o observes s on a ring: o's position plus 1, round the ring, is s's position
abbrev pub Observes : Layout → ℕ → ℕ → ℕ → Type 0
Observes r ring o s = (position_of r ring o + 1) % r.nodes ≡ position_of r ring s

-- the observer of s on a ring: the process whose position is just before that of s
abbrev pub observer_of : Layout → ℕ → ℕ → ℕ
observer_of r ring s =
    position_or_len (λ place. (place + 1) % r.nodes == position_of r ring s) (positions_on r ring)

-- the subject of o on a ring: the process whose position is just after that of o
abbrev pub subject_of : Layout → ℕ → ℕ → ℕ
subject_of r ring o =
    position_or_len (λ place. (position_of r ring o + 1) % r.nodes == place) (positions_on r ring)

-- rings as they always are: each holds each process once
pub record IsLayout (r : Layout) : Type 0 where
  pub some_nodes : 2 ≤ r.nodes
  pub few_nodes : r.nodes ≤ MOST_NODES
  pub some_ring : 0 < length r.positions
  pub few_rings : length r.positions ≤ 32
  -- each process has a position on each ring
  pub long : (ring : ℕ) → ring < length r.positions → length (positions_on r ring) ≡ r.nodes
  -- a position is below the number of processes
  pub in_range : (ring p : ℕ) → ring < length r.positions → p < r.nodes → position_of r ring p < r.nodes
  -- no two processes share a position
  pub distinct : (ring p q : ℕ) → ring < length r.positions → p < r.nodes → q < r.nodes → position_of r ring p
      ≡ position_of r ring q → p ≡ q
