-- How many calls of a device failed.
use Rattle.std.specs.Prelude.{◌≡◌, ℕ, ◌+◌, ◌-◌, ◌^◌, ◌<◌, ◌⊎◌, min, Result, Ok, Err}

-- a count after one more failure, which stays at the greatest number of 64 bits
abbrev pub one_more : ℕ → ℕ
one_more n = min (n + 1) (2 ^ 64 - 1)

-- the count after a call: one more exactly if the call failed
abbrev pub counted : {T E : Type 0} → Result T E → ℕ → ℕ
counted (Ok x) n = n
counted (Err e) n = one_more n

-- a count that rose: it is greater than before, or was at the greatest number already
abbrev pub HasRisen : ℕ → ℕ → Type 0
HasRisen old new = (old < new) ⊎ (old ≡ 2 ^ 64 - 1)
