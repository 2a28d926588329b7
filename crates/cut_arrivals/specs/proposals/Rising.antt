-- Changes of times that keep their order, as from places among deliveries to images of keys.
use Rattle.std.specs.Prelude.{◌≡◌, ℕ, ◌<◌, ◌≤◌}
use Rattle.cut_arrivals.specs.proposals.Times.{EdgeTimes}

-- it rises weakly; what is before `end` is changed to before `last`, and all else to `last`
pub record IsRising (end last : ℕ) (tau : ℕ → ℕ) : Type 0 where
  pub rises : (a b : ℕ) → a ≤ b → tau a ≤ tau b
  pub before : (t : ℕ) → t < end → tau t < last
  pub after : (t : ℕ) → end ≤ t → tau t ≡ last

-- the changed times of edges
abbrev pub moved : (ℕ → ℕ) → EdgeTimes → EdgeTimes
moved tau at ring s = tau (at ring s)
