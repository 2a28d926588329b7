-- What holds of the elements of two lists, place by place, while the second one grows or is written to.
use Rattle.std.proofs.Common.{◌≡◌, ℕ, ◌+◌, ◌<◌, ◌⊎◌, List, length, slice_index_or, slice_set}
use Rattle.std.proofs.Common.{arith}
use Rattle.std.proofs.lemmas.List.{get_or_read_under, get_or-set_same, get_or-set_other}

-- one written
pub pairs_set : {X Y : Type 0} (Q : X → Y → Type 0) (P : X
    → Type 0) (xs : List X) (ys : List Y) (n : ℕ) (x : X) (y e : Y)
    → n < length ys → n < length xs → x ≡ slice_index_or xs n x → Q x y
    → ((u : ℕ) (d : X) → u < length ys → (u < n) ⊎ P (slice_index_or xs u d)
    → Q (slice_index_or xs u d) (slice_index_or ys u e))
    → (u : ℕ) (d : X) → u < length ys → (u < n + 1) ⊎ P (slice_index_or xs u d)
    → Q (slice_index_or xs u d) (slice_index_or (slice_set ys n y) u e)
pairs_set Q P xs ys n x y e low inside is new old u d few kind =
    grind (arith, get_or_read_under, get_or-set_same, get_or-set_other)

-- one that need not be written
pub pairs_kept : {X Y : Type 0} (Q : X → Y → Type 0) (P : X
    → Type 0) (xs : List X) (ys : List Y) (n : ℕ) (x : X) (e : Y)
    → n < length xs → x ≡ slice_index_or xs n x → P x
    → ((u : ℕ) (d : X) → u < length ys → (u < n) ⊎ P (slice_index_or xs u d)
    → Q (slice_index_or xs u d) (slice_index_or ys u e))
    → (u : ℕ) (d : X) → u < length ys → (u < n + 1) ⊎ P (slice_index_or xs u d)
    → Q (slice_index_or xs u d) (slice_index_or ys u e)
pairs_kept Q P xs ys n x e inside is holds old u d few kind = grind (arith, get_or_read_under)
