-- What the entries of logs have, added up.
use Rattle.std.proofs.Common.{◌≡◌, ℕ, ◌*◌, ◌≤◌, List, [], ◌∷◌, ◌++◌}
use Rattle.std.proofs.Common.{All, length, max, set, sum_by, arith}
use mathlib.Core.Option.{some}
use lib.ListN.{get_elem?}
use Rattle.std.proofs.lemmas.Bool.Decides.{nat_tests}
use Rattle.std.proofs.lemmas.List.Elements.{All-set}
use Rattle.std.proofs.lemmas.List.Sums.{sum_by-le-sum_by}
use Rattle.cut_board.specs.declared.view.Entry.{Entry}
use Rattle.cut_board.specs.declared.view.Entry.TheVariants as entry
use Rattle.cut_board.specs.declared.view.View.{View}
use Rattle.cut_board.specs.Rule.{seat_limit}
use Rattle.cut_board.specs.Views.{drawn_of, counted_of, draws_of, amount_of, greatest, drawn_by, idle}
use Rattle.cut_board.proofs.Lists.{sum_by_put, sum_by_bounded, sum_by_flat_map, times}

pub greatest-append : (f : Entry → ℕ) (xs ys : List Entry) → greatest f (xs ++ ys) ≡ max (greatest f xs) (greatest f ys)
greatest-append f [] ys = omega arith
greatest-append f (x ∷ xs) ys = omega (arith, greatest-append f xs ys)

-- what the entries of all views have
abbrev pub total : (Entry → ℕ) → List View → ℕ
total g views = sum_by (λ v. sum_by g v.log) views

-- how often an entry drew a number of a study
abbrev pub times_of : ℕ → ℕ → Entry → ℕ
times_of k x e = times x (drawn_of k e)

pub times_drawn : (k x : ℕ) (views : List View) → times x (drawn_by k views) ≡ total (times_of k x) views
times_drawn k x views =
    grind (arith, sum_by_flat_map)

-- ---- what entries have of one study is part of what they have of all

pub length_is_part : (k : ℕ) (e : Entry) → length (drawn_of k e) ≤ draws_of e
length_is_part k (entry.Drew j n) = grind (arith, nat_tests)
length_is_part k (entry.Counted j n) = omega arith
length_is_part k (entry.Read j n) = omega arith

pub times_are_part : (k x : ℕ) (e : Entry) → times_of k x e ≤ draws_of e
times_are_part k x e =
    grind arith

pub count_is_part : (k : ℕ) (e : Entry) → counted_of k e ≤ amount_of e
count_is_part k (entry.Drew j n) = omega arith
count_is_part k (entry.Counted j n) = grind (arith, nat_tests)
count_is_part k (entry.Read j n) = omega arith

-- each view has no more than its parts may
abbrev pub AreWithin : (Entry → ℕ) → List View → Type 0
AreWithin f views = All (λ v. sum_by f v.log ≤ v.parts * seat_limit) views

pub total_is_bounded : (g f : Entry → ℕ) (views : List View) → ((e : Entry) → g e ≤ f e) → AreWithin f views
    → total g views ≤ sum_by (λ v. v.parts) views * seat_limit
total_is_bounded g f views part all =
    grind (arith, sum_by_bounded, sum_by-le-sum_by)

-- where one view has all parts, the others have nothing
pub total_is_its_own : (g f : Entry → ℕ) (views : List View) (id : ℕ) (v : View) → get_elem? views id ≡ some v
    → ((e : Entry) → g e ≤ f e) → AreWithin f views → sum_by (λ v. v.parts) views ≤ v.parts
    → total g views ≡ sum_by g v.log
total_is_its_own g f views id v at part all most =
    let others = All-set (λ (u : View). sum_by f u.log ≤ u.parts * seat_limit) views id (idle 0) (omega arith) all in
    grind (arith, sum_by_put, total_is_bounded g f (set views id (idle 0)) part others)
