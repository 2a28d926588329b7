-- Tests on lists of numbers, place by place.
use Rattle.std.proofs.Common.{◌≡◌, ℕ, zero, suc, ◌≤◌, ◌==◌, ◌&&◌, List, [], ◌∷◌, length, drop, Bool, true}
use Rattle.std.proofs.Common.{false, refl, ap, arith}
use Rattle.std.proofs.lemmas.List.Folds.{list_all-map}
use Rattle.std.specs.List.{list_all}
use Rattle.serde_json.specs.View.{view}
use Rattle.serde_json.specs.declared.value.Value.{Value}
use Rattle.cut_fields.specs.Fields.{number_in}
use Rattle.cut_plan.specs.inside.Accepted.{has_some}
use Rattle.cut_plan.specs.Plan.{is_rising}
use Rattle.cut_fields.specs.Members.{item_numbers}

length_numbers : (xs : List Value) → length (item_numbers xs) ≡ length xs
length_numbers [] = refl
length_numbers (x ∷ xs) = ap suc (length_numbers xs)

some_numbers : (xs : List Value) → (length xs == 0) ≡ false → has_some (item_numbers xs) ≡ true
some_numbers xs h =
    grind (arith, length_numbers)

-- a test of each number, after the test that there is one
pub numbers_pass : (p : ℕ → Bool) (xs : List Value) (r e : Bool) → e ≡ (length xs == 0) → e ≡ false → r
    ≡ list_all (λ v. p (number_in (view v))) xs
    → r ≡ (has_some (item_numbers xs) && list_all p (item_numbers xs))
numbers_pass p xs r e is some all =
    grind (arith, some_numbers, list_all-map)

-- a list rises from its last place on
pub rising_end : (xs : List ℕ) (j : ℕ) → length xs ≤ suc j → is_rising (drop j xs) ≡ true
rising_end [] zero h = refl
rising_end [] (suc j) h = refl
rising_end (x ∷ []) zero h = refl
rising_end (x ∷ y ∷ rest) zero h = absurd (omega arith)
rising_end (x ∷ xs) (suc j) h = rising_end xs j (omega arith)

pub rising_whole : (xs : List Value) (i : ℕ) → 1 ≤ i → length xs ≤ i
    → ((j : ℕ) → suc j ≡ i → is_rising (item_numbers xs) ≡ is_rising (drop j (item_numbers xs))) → true
    ≡ is_rising (item_numbers xs)
rising_whole xs zero some past known = absurd (omega arith)
rising_whole xs (suc j) some past known =
    grind (arith, length_numbers xs, rising_end (item_numbers xs) j)
