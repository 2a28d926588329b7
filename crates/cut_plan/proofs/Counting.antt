-- How many cells there are, and how long a rising list may be.
use Rattle.std.proofs.Common.{◌≡◌, ℕ, suc, ◌+◌, ◌*◌, ◌≤◌, ◌<◌, ◌&&◌, List, [], ◌∷◌, map, length, length-append, Bool}
use Rattle.std.proofs.Common.{true, false, nat_le, cond, refl, ap, arith}
use Rattle.std.proofs.lemmas.List.Sums.{sum_by-cons}
use Rattle.std.specs.List.{AllByRecursion, sum_by, count_by}
use Rattle.cut_plan.specs.Cells.{cells_at, cells_under_h, cells_under_k, cells_of_lists}
use Rattle.cut_plan.specs.inside.Triples.{lows_under, pairs_under, triples}
use Rattle.cut_plan.specs.Plan.{is_rising}

length_mapped : {X Y : Type 0} (f : X → Y) (xs : List X) → length (map f xs) ≡ length xs
length_mapped f [] = refl
length_mapped f (x ∷ xs) = ap suc (length_mapped f xs)

times_more : (f : ℕ → ℕ) (z : ℕ) (zs : List ℕ) (n x y : ℕ) → x ≡ f z * n → y ≡ sum_by f zs * n → x + y
    ≡ sum_by f (z ∷ zs) * n
times_more f z zs n x y first rest = rw (sum_by-cons f z zs, first, rest) (omega arith)

pub over_and : (a b : Bool) → b ≡ false → (a && b) ≡ false
over_and true b e = e
over_and false b e = refl

length_cells_at : (fs : List ℕ) (k h l : ℕ) → nat_le h k ≡ true → length (cells_at fs k h l)
    ≡ cond (nat_le l h) 1 0 * length fs
length_cells_at fs k h l e =
    grind (arith, length_mapped)

length_cells_under_h_in : (ls fs : List ℕ) (k h : ℕ) → nat_le h k ≡ true → length (cells_under_h ls fs k h)
    ≡ count_by (λ l. nat_le l h) ls * length fs
length_cells_under_h_in [] fs k h e = omega arith
length_cells_under_h_in (l ∷ ls) fs k h e =
    search (arith, length_cells_at, length-append, times_more, length_cells_under_h_in ls fs k h e)

length_cells_under_h_out : (ls fs : List ℕ) (k h : ℕ) → nat_le h k ≡ false → length (cells_under_h ls fs k h) ≡ 0
length_cells_under_h_out [] fs k h e = refl
length_cells_under_h_out (l ∷ ls) fs k h e =
    grind (arith, length_cells_under_h_out ls fs k h e)

length_cells_under_h_if : (b : Bool) (ls fs : List ℕ) (k h : ℕ) → nat_le h k ≡ b → length (cells_under_h ls fs k h)
    ≡ cond b (count_by (λ l. nat_le l h) ls) 0 * length fs
length_cells_under_h_if true ls fs k h e = length_cells_under_h_in ls fs k h e
length_cells_under_h_if false ls fs k h e = let none = length_cells_under_h_out ls fs k h e in omega (arith, none)

length_cells_under_h : (ls fs : List ℕ) (k h : ℕ) → length (cells_under_h ls fs k h) ≡ lows_under ls k h * length fs
length_cells_under_h ls fs k h = length_cells_under_h_if (nat_le h k) ls fs k h refl

length_cells_by_h : (hs ls fs : List ℕ) (k : ℕ) → length (cells_under_k hs ls fs k)
    ≡ sum_by (λ h. lows_under ls k h) hs * length fs
length_cells_by_h [] ls fs k = omega arith
length_cells_by_h (h ∷ hs) ls fs k =
    search (arith, length_cells_under_h, length-append, times_more, length_cells_by_h hs ls fs k)

length_cells_under_k : (hs ls fs : List ℕ) (k : ℕ) → length (cells_under_k hs ls fs k) ≡ pairs_under hs ls k * length fs
unfolding pairs_under
length_cells_under_k hs ls fs k = length_cells_by_h hs ls fs k

-- there is a cell for each combination and each f
pub length_cells_of_lists : (ks hs ls fs : List ℕ) → length (cells_of_lists ks hs ls fs) ≡ triples ks hs ls * length fs
length_cells_of_lists [] hs ls fs = omega arith
length_cells_of_lists (k ∷ ks) hs ls fs =
    search (arith, length_cells_under_k, length-append, times_more, length_cells_of_lists ks hs ls fs)

-- a rising list whose numbers are below a bound has room up to it
rising_room : (bound x : ℕ) (xs : List ℕ) → is_rising (x ∷ xs) ≡ true → AllByRecursion (λ y. y < bound) (x ∷ xs)
    → length (x ∷ xs) + x ≤ bound
rising_room bound x [] rises below = let top : x < bound = below.0 in omega arith
rising_room bound x (y ∷ rest) rises below =
    grind (arith, rising_room bound y rest)

pub rising_length : (low bound : ℕ) (xs : List ℕ) → is_rising xs ≡ true → AllByRecursion (λ y. y < bound) xs
    → AllByRecursion (λ y. low ≤ y) xs → low ≤ bound → length xs + low ≤ bound
rising_length low bound [] rises below above within = omega arith
rising_length low bound (x ∷ xs) rises below above within =
    grind (arith, rising_room)
