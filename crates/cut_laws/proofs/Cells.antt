-- The cells of two plans that differ in one watermark, side by side.
use Rattle.std.proofs.Common.{◌≡◌, ◌⊎◌, ℕ, zero, suc, ◌/◌, ◌≤◌, List, [], ◌∷◌, ◌++◌}
use Rattle.std.proofs.Common.{map, get_or, nat_le, refl, sym, ap, ◌∙◌, arith, subst}
use Rattle.std.specs.Bool.{⊤}
use Rattle.cut_laws.proofs.Words.{All, Cell, Values, cell_at, cells_at, cells_of, cells_of_lists, cells_under_h}
use Rattle.cut_laws.proofs.Words.{cells_under_k, flat_map, no_cell, with_marks, ◌&&◌}
use Rattle.cut_laws.specs.OtherWatermarks.{MayLowerL, MayRaiseH, with_h, with_l}
use Rattle.std.proofs.lemmas.Bool.{le-leb}
use Rattle.std.proofs.lemmas.List.{get_or-map, get_or_past, length-map, map-append}
use Rattle.std.proofs.lemmas.List.Elements.{All-head, All-map, All-tail}
use Rattle.cut_lists.proofs.FlatMaps.{All-flat_map}
use Rattle.cut_lists.proofs.Maps.{map-map}

abbrev cell : ℕ → ℕ → ℕ → ℕ → Cell
cell k h l f = record { k = k; h = h; l = l; f = f }

-- ---- what holds of each cell

-- a fact of one number alone
alone : (P : ℕ → Type 0) (x : ℕ) → P x → All P (x ∷ [])
alone P x is zero d below = is
alone P x is (suc i) d below = absurd (omega (arith, below))

cells_have : (P : Cell → Type 0) (fs : List ℕ) (k h l : ℕ) → ((f : ℕ) → l ≤ h → P (cell k h l f))
    → All P (cells_at fs k h l)
cells_have P fs k h l each = grind (arith, All-map P)

-- a fact that follows from facts of each H and each L, and from L ≤ H
all_have : (P : Cell → Type 0) (Hs Ls : ℕ → Type 0) (ks hs ls fs : List ℕ) → All Hs hs → All Ls ls
    → ((k h l f : ℕ) → Hs h → Ls l → l ≤ h → P (cell k h l f)) → All P (cells_of_lists ks hs ls fs)
all_have P Hs Ls ks hs ls fs each-h each-l each =
    All-flat_map P (λ k. cells_under_k hs ls fs k) ks (λ i k _.
    All-flat_map P (λ h. cells_under_h ls fs (get_or ks i k) h) hs (λ j h at-h.
    All-flat_map P (λ l. cells_at fs (get_or ks i k) (get_or hs j h) l) ls (λ m l at-l.
    cells_have P fs (get_or ks i k) (get_or hs j h) (get_or ls m l)
    (λ f gap. each (get_or ks i k) (get_or hs j h) (get_or ls m l) f (each-h j h at-h) (each-l m l at-l) gap))))

-- ---- the cells with another watermark

same_cells : (g : Cell → Cell) (fs : List ℕ) (k h l h2 l2 : ℕ)
    → (nat_le l2 h2 && nat_le h2 k) ≡ (nat_le l h && nat_le h k)
    → ((f : ℕ) → cell k h2 l2 f ≡ g (cell k h l f)) → cells_at fs k h2 l2 ≡ map g (cells_at fs k h l)
same_cells g fs k h l h2 l2 tests made =
    grind (arith, map-map)

same_flat : {X : Type 0} (g : Cell → Cell) (one other : X → List Cell) (xs : List X)
    → All (λ x. other x ≡ map g (one x)) xs → flat_map other xs ≡ map g (flat_map one xs)
same_flat g one other [] each = refl
same_flat g one other (x ∷ xs) each =
    ap (λ ys. ys ++ flat_map other xs) (All-head (λ y. other y ≡ map g (one y)) x xs each)
    ∙ ap (λ ys. map g (one x) ++ ys) (same_flat g one other xs (All-tail (λ y. other y ≡ map g (one y)) x xs each))
    ∙ sym (map-append g (one x) (flat_map one xs))

-- a list with nothing after it
same_alone : (g : Cell → Cell) (xs ys : List Cell) → ys ≡ map g xs → ys ++ [] ≡ map g (xs ++ [])
same_alone g xs ys same = ap (λ zs. zs ++ []) same ∙ sym (map-append g xs [])

-- the cell of each trial, and the same with the other watermark; or neither plan has one
abbrev pub SideBySide : (Cell → Cell) → (Cell → Type 0) → Cell → Cell → Type 0
SideBySide g P c other = ((other ≡ g c) × P c) ⊎ (other ≡ c)

at_place : (g : Cell → Cell) (P : Cell → Type 0) (xs ys : List Cell) (i : ℕ) → ys ≡ map g xs → All P xs
    → SideBySide g P (get_or xs i no_cell) (get_or ys i no_cell)
at_place g P xs ys i same each = grind (arith, get_or-map, get_or_past, length-map)

-- ---- another H

module _ (v : Values) (x y : ℕ) (may : MayRaiseH v x y) where
  abbrev pub raised : Cell → Cell
  raised c = with_marks c y c.l

  abbrev pub IsBelow : Cell → Type 0
  IsBelow c = (c.l ≤ c.h) × (c.h ≤ y)

  cells_raised : cells_of (with_h v y) ≡ map raised (cells_of v)
  cells_raised =
      same_flat raised (λ k. cells_under_k (x ∷ []) v.l v.f k) (λ k. cells_under_k (y ∷ []) v.l v.f k) v.k
      (λ i k at-k. same_alone raised (cells_under_h v.l v.f (get_or v.k i k) x)
      (cells_under_h v.l v.f (get_or v.k i k) y)
      (same_flat raised (λ l. cells_at v.f (get_or v.k i k) x l) (λ l. cells_at v.f (get_or v.k i k) y l) v.l
      (λ j l at-l. same_cells raised v.f (get_or v.k i k) x (get_or v.l j l) y (get_or v.l j l)
      (tests (get_or v.k i k) (get_or v.l j l) (may.rings i k at-k) (may.lows j l at-l)) (λ f. refl))))
      ∙ ap (λ hs. map raised (cells_of_lists v.k hs v.l v.f)) (sym may.one)
    where
      tests : (k l : ℕ) → y ≤ k → l ≤ x → (nat_le l y && nat_le y k) ≡ (nat_le l x && nat_le x k)
      tests k l high low = rw (
        le-leb l y (omega (arith, low, may.higher)),
        le-leb y k high,
        le-leb l x low,
        le-leb x k (omega (arith, high, may.higher)),
      ) refl

  cells_below : All IsBelow (cells_of v)
  cells_below = all_have IsBelow (λ h. h ≤ y) (λ l. ⊤) v.k v.h v.l v.f
      (subst (λ hs. All (λ h. h ≤ y) hs) (sym may.one) (alone (λ h. h ≤ y) x may.higher)) (λ i d below. tt)
      (λ k h l f high low gap. (gap, high))

  pub raised_at : (t : ℕ) → SideBySide raised IsBelow (cell_at v t) (cell_at (with_h v y) t)
  raised_at t = at_place raised IsBelow (cells_of v) (cells_of (with_h v y)) (t / v.repeats) cells_raised cells_below

-- ---- another L

module _ (v : Values) (x y : ℕ) (may : MayLowerL v x y) where
  abbrev pub lowered : Cell → Cell
  lowered c = with_marks c c.h y

  abbrev pub IsAbove : Cell → Type 0
  IsAbove c = (c.l ≤ c.h) × (y ≤ c.l)

  cells_lowered : cells_of (with_l v y) ≡ map lowered (cells_of v)
  cells_lowered =
      same_flat lowered (λ k. cells_under_k v.h (x ∷ []) v.f k) (λ k. cells_under_k v.h (y ∷ []) v.f k) v.k
      (λ i k at-k.
      same_flat lowered (λ h. cells_under_h (x ∷ []) v.f (get_or v.k i k) h)
      (λ h. cells_under_h (y ∷ []) v.f (get_or v.k i k) h) v.h
      (λ j h at-h. same_alone lowered (cells_at v.f (get_or v.k i k) (get_or v.h j h) x)
      (cells_at v.f (get_or v.k i k) (get_or v.h j h) y)
      (same_cells lowered v.f (get_or v.k i k) (get_or v.h j h) x (get_or v.h j h) y
      (tests (get_or v.k i k) (get_or v.h j h) (may.highs j h at-h)) (λ f. refl))))
      ∙ ap (λ ls. map lowered (cells_of_lists v.k v.h ls v.f)) (sym may.one)
    where
      tests : (k h : ℕ) → x ≤ h → (nat_le y h && nat_le h k) ≡ (nat_le x h && nat_le h k)
      tests k h high = rw (le-leb y h (omega (arith, high, may.lower)), le-leb x h high) refl

  cells_above : All IsAbove (cells_of v)
  cells_above = all_have IsAbove (λ h. ⊤) (λ l. y ≤ l) v.k v.h v.l v.f (λ i d below. tt)
      (subst (λ ls. All (λ l. y ≤ l) ls) (sym may.one) (alone (λ l. y ≤ l) x may.lower))
      (λ k h l f high low gap. (gap, low))

  pub lowered_at : (t : ℕ) → SideBySide lowered IsAbove (cell_at v t) (cell_at (with_l v y) t)
  lowered_at t =
      at_place lowered IsAbove (cells_of v) (cells_of (with_l v y)) (t / v.repeats) cells_lowered cells_above

-- ---- the cell of a trial

-- L is at most H, also of no cell
pub gap_at : (v : Values) (t : ℕ) → (cell_at v t).l ≤ (cell_at v t).h
gap_at v t =
    let all = all_have (λ c. c.l ≤ c.h) (λ h. ⊤) (λ l. ⊤) v.k v.h v.l v.f (λ i d below. tt) (λ i d below. tt)
    (λ k h l f _ _ gap. gap) in
    grind (arith, get_or_past)
