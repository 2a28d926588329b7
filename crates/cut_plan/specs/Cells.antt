-- The cells of a plan, and its trials.
use Rattle.std.specs.Prelude.{ℕ, ◌+◌, ◌*◌, ◌≤◌, ◌<◌, ◌&&◌, max, fold, List, [], map, length, nat_le, if◌then◌else◌}
use Rattle.std.specs.List.{flat_map}
use Rattle.cut_plan.specs.declared.cell.Cell.{Cell}
use Rattle.cut_plan.specs.Values.{Values}

-- the cells of a plan in order: by k, then h, then l as its lists have them, where l ≤ h ≤ k, and of these by f
abbrev pub cells_of : Values → List Cell
cells_of v =
    flat_map (λ k. flat_map (λ h. flat_map (λ l.
    if nat_le l h && nat_le h k then map (λ f. record { k = k; h = h; l = l; f = f }) v.f else []) v.l) v.h) v.k

-- how many trials a plan has: each cell's, one after another
abbrev pub trial_count : Values → ℕ
trial_count v = length (cells_of v) * v.repeats

-- the greatest number of a list, 0 for the empty one
abbrev pub largest : List ℕ → ℕ
largest xs = fold max 0 xs

-- what is known of each cell of a plan
pub record IsCellOf (v : Values) (c : Cell) : Type 0 where
  pub low : 1 ≤ c.l
  pub thresholds : c.l ≤ c.h
  pub rings : c.h ≤ c.k
  pub most_rings : c.k ≤ largest v.k
  pub faults_fit : c.f + v.liars + v.links ≤ v.nodes
  pub one_left : c.f < v.nodes

-- ---- the same, list by list

-- the cells of one k, h and l: one for each f, where l ≤ h ≤ k, and else none
abbrev pub cells_at : List ℕ → ℕ → ℕ → ℕ → List Cell
cells_at fs k h l =
    if nat_le l h && nat_le h k then map (λ f. record { k = k; h = h; l = l; f = f }) fs else []

-- the cells of one k and h: those of each l in turn
abbrev pub cells_under_h : List ℕ → List ℕ → ℕ → ℕ → List Cell
cells_under_h ls fs k h = flat_map (λ l. cells_at fs k h l) ls

-- the cells of one k: those of each h in turn
abbrev pub cells_under_k : List ℕ → List ℕ → List ℕ → ℕ → List Cell
cells_under_k hs ls fs k = flat_map (λ h. cells_under_h ls fs k h) hs

-- the cells of four lists: those of each k in turn
abbrev pub cells_of_lists : List ℕ → List ℕ → List ℕ → List ℕ → List Cell
cells_of_lists ks hs ls fs = flat_map (λ k. cells_under_k hs ls fs k) ks
