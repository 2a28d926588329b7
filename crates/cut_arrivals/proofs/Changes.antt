-- A rising change that takes one time of each element of a list to another.
use Rattle.std.proofs.Common.{◌≡◌, inl, inr, ℕ, ◌-◌, ◌<◌, ◌≤◌, cond, nat_le, nat_lt, List, map, length, get_or, max}
use Rattle.std.proofs.Common.{fold, ap, ◌∙◌, arith}
use Rattle.std.specs.List.{All, Contains}
use Rattle.std.proofs.lemmas.Bool.{cases_lt, le-leb, le-ltb, lt-leb, lt-ltb}
use Rattle.std.proofs.lemmas.List.{length-map, get_or-map}
use Rattle.std.proofs.lemmas.List.Elements.{All-contains, All-map, Contains-get_or}
use Rattle.cut_lists.proofs.Greatest.{fold_max-le, get_or-le-fold_max}
use Rattle.cut_arrivals.specs.proposals.Rising.{IsRising}

-- of two elements of a list the one whose place is no later has no greater image
pub record LieAlike {X : Type 0} (xs : List X) (place image : X → ℕ) (end last : ℕ) : Type 0 where
  pub some : 0 < last
  pub before : All (λ x. place x < end) xs
  pub below : (x : X) → image x < last
  pub alike : (x y : X) → Contains xs x → Contains xs y → place y ≤ place x → image y ≤ image x

module _ {X : Type 0} (xs : List X) (place image : X → ℕ) (end last : ℕ) where
  -- the image of an element whose place has come
  abbrev seen : ℕ → X → ℕ
  seen t y = cond (nat_le (place y) t) (image y) 0

  -- the greatest image by a place
  abbrev greatest : ℕ → ℕ
  greatest t = fold max 0 (map (seen t) xs)

  abbrev pub change : ℕ → ℕ
  change t = cond (nat_lt t end) (greatest t) last

  greatest_le : (t m : ℕ) → ((y : X) → Contains xs y → place y ≤ t → image y ≤ m) → greatest t ≤ m
  greatest_le t m each =
      fold_max-le 0 m (map (seen t) xs) (omega arith) (All-map (λ v. v ≤ m) (seen t) xs (λ k d within.
      let y : X = get_or xs k d in
      elim (cases_lt t (place y)) [
        | inl later ↦ (let none : seen t y ≡ 0 = ap (λ b. cond b (image y) 0) (lt-leb (place y) t later)
            in omega (arith, none))
        | inr come ↦ (let it : seen t y ≡ image y = ap (λ b. cond b (image y) 0) (le-leb (place y) t come) in
            omega (arith, it, each y (Contains-get_or xs k d within) come))
      ]))

  le_greatest : (t : ℕ) (y : X) → Contains xs y → place y ≤ t → image y ≤ greatest t
  le_greatest t y at come =
      let long : length (map (seen t) xs) ≡ length xs = length-map xs (seen t) in
      let is : get_or (map (seen t) xs) at.0 0 ≡ image y =
      get_or-map (seen t) xs at.0 y 0 at.1 ∙ ap (seen t) at.2 ∙ ap (λ b. cond b (image y) 0) (le-leb (place y) t come)
      in
      omega (arith, is, get_or-le-fold_max 0 (map (seen t) xs) at.0 0 (omega (arith, long, at.1)))

  change_in : (t : ℕ) → t < end → change t ≡ greatest t
  change_in t less = ap (λ b. cond b (greatest t) last) (lt-ltb t end less)

  change_past : (t : ℕ) → end ≤ t → change t ≡ last
  change_past t past = ap (λ b. cond b (greatest t) last) (le-ltb t end past)

  change_before : LieAlike xs place image end last → (t : ℕ) → t < end → change t < last
  change_before lie t less =
      let low : greatest t ≤ last - 1 = greatest_le t (last - 1)
      (λ y _ _. let below : image y < last = lie.below y in omega (arith, below)) in
      omega (arith, change_in t less, low, lie.some)

  pub change_rises : LieAlike xs place image end last → IsRising end last change
  change_rises lie = record {
    rises = λ a b before. elim (cases_lt b end) [
      | inl less ↦ (
          let more : greatest a ≤ greatest b = greatest_le a (greatest b)
          (λ y at come. le_greatest b y at (omega (arith, come, before))) in
          omega (arith, more, change_in a (omega (arith, less, before)), change_in b less))
      | inr past ↦ elim (cases_lt a end) [
        | inl less ↦ (let low : change a < last = change_before lie a less in omega (arith, low, change_past b past))
        | inr both ↦ omega (arith, change_past a both, change_past b past)
      ]
    ];
    before = change_before lie;
    after = change_past;
  }

  pub change_is : LieAlike xs place image end last → (y : X) → Contains xs y → change (place y) ≡ image y
  change_is lie y at =
      let less : place y < end = All-contains (λ x. place x < end) xs y lie.before at in
      let low : greatest (place y) ≤ image y = greatest_le (place y) (image y)
      (λ z other come. lie.alike y z at other come) in
      let high : image y ≤ greatest (place y) = le_greatest (place y) y at (omega arith) in
      change_in (place y) less ∙ (let same : greatest (place y) ≡ image y = omega (arith, low, high) in same)
