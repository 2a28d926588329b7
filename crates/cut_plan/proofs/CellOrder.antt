-- The cells of a plan are the combinations of its lists, each once, in lexical order.
use Rattle.std.proofs.Common.{◌≡◌, ℕ, ◌≤◌, ◌<◌, inl, inr, List, map, ◌&&◌, nat_le, refl, sym, ◌∙◌}
use Rattle.std.proofs.lemmas.Bool.{and_parts, and_from, leb-true, le-leb}
use Rattle.std.specs.Bool.{⊤}
use Rattle.std.specs.List.{AllByRecursion, Contains}
use Rattle.cut_plan.specs.declared.cell.Cell.{Cell}
use Rattle.cut_plan.specs.Values.{Values}
use Rattle.cut_plan.specs.Cells.{cells_at, cells_under_h, cells_under_k, cells_of}
use Rattle.cut_plan.specs.Plan.{IsPlan}
use Rattle.cut_plan.specs.Combinations.{IsBefore, IsCombination, AreCombinations}
use Rattle.cut_plan.proofs.Every.{every-map, every-flat_map, every-cond, every-always}
use Rattle.cut_plan.proofs.Among.{IsIn, in_from_contains, contains_from_in, in-flat_map, into-flat_map, in-map}
use Rattle.cut_plan.proofs.Among.{into-map, in-cond, IsAscending, pairs_from_ascending, every-weaker, rising_ascends}
use Rattle.cut_plan.proofs.Among.{ascending-map, ascending-cond, ascending-flat_map}

abbrev cell_with : ℕ → ℕ → ℕ → ℕ → Cell
cell_with k h l f = record { k = k; h = h; l = l; f = f }

-- ---- the combinations

listed_out : (v : Values) (c : Cell) → Contains (cells_of v) c → IsCombination v c
listed_out v c here =
    let by_k = in-flat_map (cells_under_k v.h v.l v.f) v.k c (in_from_contains (cells_of v) c here) in
    let by_h = in-flat_map (cells_under_h v.l v.f by_k.0) v.h c by_k.2 in
    let by_l = in-flat_map (cells_at v.f by_k.0 by_h.0) v.l c by_h.2 in
    let ordered = in-cond (nat_le by_l.0 by_h.0 && nat_le by_h.0 by_k.0) (map (cell_with by_k.0 by_h.0 by_l.0) v.f) c
    by_l.2 in
    let by_f = in-map (cell_with by_k.0 by_h.0 by_l.0) v.f c ordered.1 in
    let parts = and_parts (nat_le by_l.0 by_h.0) (nat_le by_h.0 by_k.0) ordered.0 in
    rw (← by_f.2) (record {
      k_listed = contains_from_in v.k by_k.0 by_k.1;
      h_listed = contains_from_in v.h by_h.0 by_h.1;
      l_listed = contains_from_in v.l by_l.0 by_l.1;
      f_listed = contains_from_in v.f by_f.0 by_f.1;
      thresholds = leb-true by_l.0 by_h.0 parts.0;
      rings = leb-true by_h.0 by_k.0 parts.1;
    })

into-cells_at : (fs : List ℕ) (c : Cell) → IsIn c.f fs → c.l ≤ c.h → c.h ≤ c.k → IsIn c (cells_at fs c.k c.h c.l)
into-cells_at fs c here low high =
    let ordered = and_from (nat_le c.l c.h) (nat_le c.h c.k) (le-leb c.l c.h low) (le-leb c.h c.k high) in
    rw ordered (into-map (cell_with c.k c.h c.l) fs c.f here)

listed_in : (v : Values) (c : Cell) → IsCombination v c → Contains (cells_of v) c
listed_in v c known =
    let f = into-cells_at v.f c (in_from_contains v.f c.f known.f_listed) known.thresholds known.rings in
    let l = into-flat_map (cells_at v.f c.k c.h) v.l c.l c (in_from_contains v.l c.l known.l_listed) f in
    let h = into-flat_map (cells_under_h v.l v.f c.k) v.h c.h c (in_from_contains v.h c.h known.h_listed) l in
    contains_from_in (cells_of v) c (into-flat_map (cells_under_k v.h v.l v.f) v.k c.k c
    (in_from_contains v.k c.k known.k_listed) h)

-- ---- the order

-- the cells of one k, h and l have them
keyed_f : (fs : List ℕ) (k h l : ℕ) → AllByRecursion (λ c. (c.l ≡ l) × ((c.k ≡ k) × (c.h ≡ h))) (cells_at fs k h l)
keyed_f fs k h l =
    every-cond _ (nat_le l h && nat_le h k) (map (cell_with k h l) fs) (λ _.
    every-map (λ _. ⊤) (λ c. (c.l ≡ l) × ((c.k ≡ k) × (c.h ≡ h))) (cell_with k h l) (λ f _. (refl, (refl, refl))) fs
    (every-always (λ _. ⊤) (λ _. tt) fs))

keyed_l : (ls fs : List ℕ) (k h : ℕ) → AllByRecursion (λ c. (c.h ≡ h) × (c.k ≡ k)) (cells_under_h ls fs k h)
keyed_l ls fs k h =
    every-flat_map (λ _. ⊤) (λ c. (c.h ≡ h) × (c.k ≡ k)) (cells_at fs k h) (λ l _.
    every-weaker (λ c. (c.l ≡ l) × ((c.k ≡ k) × (c.h ≡ h))) (λ c. (c.h ≡ h) × (c.k ≡ k)) (λ c e. (e.1.1, e.1.0))
    (cells_at fs k h l) (keyed_f fs k h l))
    ls (every-always (λ _. ⊤) (λ _. tt) ls)

keyed_h : (hs ls fs : List ℕ) (k : ℕ) → AllByRecursion (λ c. (c.k ≡ k) × ⊤) (cells_under_k hs ls fs k)
keyed_h hs ls fs k =
    every-flat_map (λ _. ⊤) (λ c. (c.k ≡ k) × ⊤) (cells_under_h ls fs k) (λ h _.
    every-weaker (λ c. (c.h ≡ h) × (c.k ≡ k)) (λ c. (c.k ≡ k) × ⊤) (λ c e. (e.1, tt)) (cells_under_h ls fs k h)
    (keyed_l ls fs k h))
    hs (every-always (λ _. ⊤) (λ _. tt) hs)

ascending_f : (fs : List ℕ) (k h l : ℕ) → IsAscending (λ x y. x < y) fs → IsAscending IsBefore (cells_at fs k h l)
ascending_f fs k h l rises =
    ascending-cond IsBefore (nat_le l h && nat_le h k) (map (cell_with k h l) fs)
    (ascending-map (λ x y. x < y) IsBefore (cell_with k h l) (λ x y lt. inr (refl, inr (refl, inr (refl, lt)))) fs
    rises)

ascending_l : (ls fs : List ℕ) (k h : ℕ) → IsAscending (λ x y. x < y) ls → IsAscending (λ x y. x < y) fs
    → IsAscending IsBefore (cells_under_h ls fs k h)
ascending_l ls fs k h rises_l rises_f =
    ascending-flat_map IsBefore (λ c. (c.k ≡ k) × (c.h ≡ h)) (λ c. c.l) (cells_at fs k h)
    (λ c d a b lt. inr (a.0 ∙ sym b.0, inr (a.1 ∙ sym b.1, inl lt))) (keyed_f fs k h)
    (λ l. ascending_f fs k h l rises_f) ls rises_l

ascending_h : (hs ls fs : List ℕ) (k : ℕ) → IsAscending (λ x y. x < y) hs → IsAscending (λ x y. x < y) ls
    → IsAscending (λ x y. x < y) fs → IsAscending IsBefore (cells_under_k hs ls fs k)
ascending_h hs ls fs k rises_h rises_l rises_f =
    ascending-flat_map IsBefore (λ c. c.k ≡ k) (λ c. c.h) (cells_under_h ls fs k)
    (λ c d a b lt. inr (a ∙ sym b, inl lt)) (keyed_l ls fs k) (λ h. ascending_l ls fs k h rises_l rises_f) hs rises_h

ascending_k : (v : Values) → IsPlan v → IsAscending IsBefore (cells_of v)
ascending_k v plan =
    ascending-flat_map IsBefore (λ _. ⊤) (λ c. c.k) (cells_under_k v.h v.l v.f)
    (λ c d a b lt. inl lt) (keyed_h v.h v.l v.f)
    (λ k. ascending_h v.h v.l v.f k (rising_ascends v.h plan.hs.rising) (rising_ascends v.l plan.ls.rising)
    (rising_ascends v.f plan.fs_rising))
    v.k (rising_ascends v.k plan.ks.rising)

pub combinations : (v : Values) → IsPlan v → AreCombinations v
combinations v plan = record {
  listed = λ c. (listed_out v c, listed_in v c);
  in_order = pairs_from_ascending IsBefore (cells_of v) (ascending_k v plan);
}
