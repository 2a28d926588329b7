-- What is known of the cells of a plan's trials.
use Rattle.std.proofs.Common.{◌≡◌, ℕ, ◌/◌, ◌<◌, ◌≤◌, true, List, length, nat_le, nat_lt, ◌&&◌, arith}
use Rattle.cut_laws.proofs.Words.{AreCombinations, Cell, Contains, IsPlan, Values, cell_at, cells_of, no_cell}
use Rattle.cut_laws.proofs.Words.{trial_count}
use Rattle.std.proofs.lemmas.Bool.{and_parts, leb-true, ltb-true}
use Rattle.std.proofs.lemmas.List.Elements.{All-contains, Contains-get_or}
use Rattle.std.proofs.lemmas.List.Sums.{AllPass-from_list_all}
use Rattle.std.proofs.lemmas.Nat.{div_below}
use Rattle.cut_lists.proofs.Greatest.{get_or-le-fold_max}
use Rattle.cut_plan.specs.Cells.{largest}

-- no number of a list is above its largest
listed-le-largest : (xs : List ℕ) (x : ℕ) → Contains xs x → x ≤ largest xs
listed-le-largest xs x at = omega (arith, at.2, get_or-le-fold_max 0 xs at.0 x at.1)

pub record IsCell (v : Values) (c : Cell) : Type 0 where
  pub low : 1 ≤ c.l
  pub gap : c.l ≤ c.h
  pub rings : c.h ≤ c.k
  pub most_rings : c.k ≤ largest v.k
  pub some_left : c.f < v.nodes

-- the cell of a trial of a plan
pub cell_is : ((w : Values) → IsPlan w → AreCombinations w) → (v : Values) (t : ℕ) → IsPlan v → t < trial_count v
    → IsCell v (cell_at v t)
cell_is combinations v t plan inside =
    let c : Cell = cell_at v t in
    let listed : Contains (cells_of v) c = Contains-get_or (cells_of v) (t / v.repeats) no_cell
    (div_below t v.repeats (length (cells_of v)) (omega (arith, plan.some_repeats)) inside) in
    let is = ((combinations v plan).listed c).0 listed in
    let scale = All-contains (λ x. nat_le 1 x && nat_le x 32 ≡ true) v.l c.l
    (AllPass-from_list_all (λ x. nat_le 1 x && nat_le x 32) v.l plan.ls.range) is.l_listed in
    record {
      low = leb-true 1 c.l (and_parts _ _ scale).0;
      gap = is.thresholds;
      rings = is.rings;
      most_rings = listed-le-largest v.k c.k is.k_listed;
      some_left = ltb-true c.f v.nodes
          (All-contains (λ f. nat_lt f v.nodes ≡ true) v.f c.f
          (AllPass-from_list_all (λ f. nat_lt f v.nodes) v.f plan.fs) is.f_listed);
    }
