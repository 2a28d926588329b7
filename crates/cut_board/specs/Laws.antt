-- What a draw, a count and a read do to the numbers, the sum and the greatest count of each study.
use Rattle.std.specs.Prelude.{◌≡◌, ℕ, ◌+◌, ◌≤◌, ◌==◌, [], ◌∷◌, ◌++◌, max, if◌then◌else◌}
use Rattle.cut_board.specs.declared.view.View.{View}
use Rattle.cut_board.specs.Views.{drawn_in, counted_in, seen_in, idle, drew, counted, read}

abbrev pub DrawsAdd : Type 0
DrawsAdd =
    (v : View) (study n k : ℕ)
    → drawn_in k (drew v study n) ≡ drawn_in k v ++ (if study == k then n ∷ [] else [])

abbrev pub CountsAdd : Type 0
CountsAdd =
    (v : View) (study n k : ℕ)
    → counted_in k (counted v study n) ≡ counted_in k v + (if study == k then n else 0)

abbrev pub CountsAreSeen : Type 0
CountsAreSeen =
    (v : View) (study n k : ℕ)
    → seen_in k (counted v study n) ≡
    (if study == k then max (seen_in k v) (counted_in k v + n) else seen_in k v)

abbrev pub ReadsAreSeen : Type 0
ReadsAreSeen =
    (v : View) (study n k : ℕ)
    → seen_in k (read v study n) ≡ (if study == k then max (seen_in k v) n else seen_in k v)

abbrev pub OwnCountsAreSeen : Type 0
OwnCountsAreSeen = (v : View) (study : ℕ) → counted_in study v ≤ seen_in study v

abbrev pub IdleHasNothing : Type 0
IdleHasNothing =
    (parts study : ℕ)
    → (drawn_in study (idle parts) ≡ []) × (counted_in study (idle parts) ≡ 0) ×
    (seen_in study (idle parts) ≡ 0)
