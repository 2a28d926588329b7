-- The cells of a plan, said apart from how they are listed.
use Rattle.std.specs.Prelude.{◌≡◌, ◌<◌, ◌≤◌, ◌↔◌, ◌⊎◌}
use Rattle.std.specs.List.{Contains, AllPairs}
use Rattle.cut_plan.specs.declared.cell.Cell.{Cell}
use Rattle.cut_plan.specs.Values.{Values}
use Rattle.cut_plan.specs.Cells.{cells_of}

-- the lexical order of cells: by k, then by h, then by l, then by f
abbrev pub IsBefore : Cell → Cell → Type 0
IsBefore c d =
    (c.k < d.k) ⊎ ((c.k ≡ d.k) × ((c.h < d.h) ⊎ ((c.h ≡ d.h) × ((c.l < d.l) ⊎ ((c.l ≡ d.l) × (c.f < d.f))))))

-- a combination of the values of a plan's lists, with its thresholds in order
pub record IsCombination (v : Values) (c : Cell) : Type 0 where
  pub k_listed : Contains v.k c.k
  pub h_listed : Contains v.h c.h
  pub l_listed : Contains v.l c.l
  pub f_listed : Contains v.f c.f
  pub thresholds : c.l ≤ c.h
  pub rings : c.h ≤ c.k

-- the cells are the combinations, each once, in lexical order
pub record AreCombinations (v : Values) : Type 0 where
  pub listed : (c : Cell) → Contains (cells_of v) c ↔ IsCombination v c
  pub in_order : AllPairs IsBefore (cells_of v)
