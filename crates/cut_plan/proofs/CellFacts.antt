-- What is known of each cell of a plan.
use Rattle.std.proofs.Common.{◌≡◌, ℕ, ◌≤◌, ◌<◌, List, ◌&&◌, length, get_or, nat_le, nat_lt, arith}
use Rattle.std.proofs.lemmas.Bool.{and_parts, leb-true, ltb-true}
use Rattle.std.specs.Bool.{⊤}
use Rattle.std.specs.List.{AllByRecursion}
use Rattle.cut_plan.specs.declared.cell.Cell.{Cell}
use Rattle.cut_plan.specs.Values.{Values}
use Rattle.cut_plan.specs.Cells.{cells_at, cells_of, largest, IsCellOf}
use Rattle.cut_plan.specs.Plan.{IsPlan}
use Rattle.cut_plan.proofs.Every.{every-map, every-flat_map, every-always, every-list_all, every-both}
use Rattle.cut_plan.proofs.Every.{every-get_or, every_below_fold}

abbrev IsFailedCount : Values → ℕ → Type 0
IsFailedCount v f = (f < v.nodes) × (f ≤ largest v.f)

failed_counts : (v : Values) → IsPlan v → AllByRecursion (IsFailedCount v) v.f
failed_counts v plan =
    every-both (λ f. f < v.nodes) (λ f. f ≤ largest v.f) v.f
    (every-list_all (λ f. nat_lt f v.nodes) (λ f. f < v.nodes) (λ f h. ltb-true f v.nodes h) v.f plan.fs)
    (every_below_fold 0 v.f).1

lows : (v : Values) → IsPlan v → AllByRecursion (λ l. 1 ≤ l) v.l
lows v plan = every-list_all (λ x. nat_le 1 x && nat_le x 32) (λ l. 1 ≤ l)
    (λ l h. leb-true 1 l (and_parts (nat_le 1 l) (nat_le l 32) h).0) v.l plan.ls.range

cells_at-every : (v : Values) → IsPlan v → (k h l : ℕ) → k ≤ largest v.k → 1 ≤ l
    → AllByRecursion (IsCellOf v) (cells_at v.f k h l)
cells_at-every v plan k h l top low =
    grind (arith, every-map (IsFailedCount v) (IsCellOf v), failed_counts v plan)

pub every-cells : (v : Values) → IsPlan v → AllByRecursion (IsCellOf v) (cells_of v)
every-cells v plan =
    every-flat_map (λ k. k ≤ largest v.k) (IsCellOf v) _ (λ k top.
    every-flat_map (λ _. ⊤) (IsCellOf v) _ (λ h _.
    every-flat_map (λ l. 1 ≤ l) (IsCellOf v) _ (λ l low. cells_at-every v plan k h l top low) v.l (lows v plan))
    v.h (every-always (λ _. ⊤) (λ _. tt) v.h))
    v.k (every_below_fold 0 v.k).1

pub cell-facts : (v : Values) (i : ℕ) (c : Cell) (cells : List Cell) → IsPlan v → cells ≡ cells_of v → i
    < length (cells_of v) → c ≡ get_or cells i c → IsCellOf v c
cell-facts v i c cells plan same within found =
    grind (arith, every-get_or, every-cells)
