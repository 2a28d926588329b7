-- The processes that count for a proposal, with their times.
use Rattle.std.specs.Prelude.{◌≡◌, ℕ, ◌<◌, ◌≤◌, false, List, map, All, Contains}
use Rattle.cut_arrivals.specs.ranks.Closing.{IsLeast, IsClosing, is_doubtful}

-- lows and highs of n processes: none is stable before it is reported, and nothing comes before time 1
pub record AreTimes (n end : ℕ) (low high : ℕ → ℕ) : Type 0 where
  pub some : (s : ℕ) → s < n → 1 ≤ low s
  pub ordered : (s : ℕ) → s < n → low s ≤ high s
  pub within : (s : ℕ) → s < n → high s ≤ end

-- lows and highs in order of a list of processes, which has each that is reported before `last`
pub record AreCandidates (n last : ℕ) (low high : ℕ → ℕ) (candidates reported_at stable_at : List ℕ) : Type 0 where
  pub processes : All (λ s. s < n) candidates
  pub each : (s : ℕ) → s < n → low s < last → Contains candidates s
  pub reported_at_are : reported_at ≡ map low candidates
  pub stable_at_are : stable_at ≡ map high candidates

-- such lows and highs with their closing time, of which nothing is doubted
pub record IsClosed (n last : ℕ) (low high : ℕ → ℕ) (reported_at stable_at : List ℕ) (first time : ℕ) : Type 0 where
  pub candidates : (some : List ℕ) × AreCandidates n last low high some reported_at stable_at
  pub least : IsLeast reported_at first
  pub proposal_time : IsClosing first reported_at stable_at time
  pub certain : is_doubtful reported_at first time ≡ false
