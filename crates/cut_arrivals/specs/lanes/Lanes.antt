-- Vectors that have a receiver in each lane.
use Rattle.std.specs.Prelude.{ℕ, List, map, slice_index}

-- the values of one receiver
abbrev pub lane : ℕ → List (List ℕ) → List ℕ
lane i vs = map (λ v. slice_index v i) vs
