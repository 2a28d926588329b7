-- Which numbers are a share.
use Rattle.std.specs.Prelude.{ℕ, ◌≤◌}
use Rattle.cut_plan.specs.declared.limits.TheConstants.{MOST_REPEATS}
use Rattle.cut_shares.specs.declared.share.share.TheConstants.{MOST_SHARES}

-- a share: its number among the shares, from 1, how many shares there are, and how many trials a block has at most
pub record IsShare (index shares block_size : ℕ) : Type 0 where
  pub numbered : 1 ≤ index
  pub within : index ≤ shares
  pub few : shares ≤ MOST_SHARES
  pub some : 1 ≤ block_size
  pub small : block_size ≤ MOST_REPEATS
