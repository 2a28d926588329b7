-- Laws of shares.
use Rattle.std.specs.Prelude.{◌≡◌, ◌≢◌, ℕ, ◌<◌, ◌≤◌, false, count_by, IsTrue}
use Rattle.std.specs.List.{range_with_len}
use Rattle.cut_plan.specs.Cells.{trial_count}
use Rattle.cut_plan.specs.Values.{Values}
use Rattle.cut_shares.specs.declared.share.share.Share.{Share}
use Rattle.cut_shares.specs.share.Blocks.{AreNumbered}
use Rattle.cut_shares.specs.share.Share.{has_block, is_in_share}

-- two of the shares that a plan is divided into: as many in all, and blocks of one size
pub record AreOfOne (a b : Share) : Type 0 where
  pub shares : a.shares ≡ b.shares
  pub block_size : a.block_size ≡ b.block_size

-- no trial is in two of them
abbrev pub SharesAreApart : Type 0
SharesAreApart =
    (v : Values) (a b : Share) (t : ℕ) → AreOfOne a b → a.index ≢ b.index → IsTrue (is_in_share a v t)
    → is_in_share b v t ≡ false

-- and each trial of the plan is in one
abbrev pub SharesAreAll : Type 0
SharesAreAll =
    (v : Values) (a : Share) (t : ℕ) → t < trial_count v
    → (b : Share) × (AreOfOne a b × IsTrue (is_in_share b v t))

-- of blocks in a row, as many as there are shares, each share has exactly one
abbrev pub SharesTakeTurns : Type 0
SharesTakeTurns = (s : Share) (b : ℕ) → count_by (has_block s) (range_with_len b s.shares) ≡ 1

-- the blocks of any size are numbered in order
abbrev pub BlocksAreNumbered : Type 0
BlocksAreNumbered = (size : ℕ) (v : Values) → 1 ≤ size → 1 ≤ v.repeats → AreNumbered size v
