-- Which trials of a plan are of a share.
use Rattle.std.specs.Prelude.{ℕ, ◌-◌, ◌%◌, ◌==◌, ◌&&◌, Bool, List, All, filter, nat_lt, IsTrue}
use Rattle.cut_plan.specs.Cells.{trial_count}
use Rattle.cut_plan.specs.Values.{Values}
use Rattle.cut_outcome.specs.Sum.{trials_in}
use Rattle.cut_ledger.specs.declared.slip.Slip.{Slip}
use Rattle.cut_ledger.specs.Contents.{all_trials}
use Rattle.cut_ledger.specs.World.{IsTrueSlip}
use Rattle.cut_shares.specs.share.Blocks.{block_of}
use Rattle.cut_shares.specs.declared.share.share.Share.{Share}

-- whether a share has the block of a number: of N shares, share number I, from 1, has those that leave I - 1 on
-- division by N
abbrev pub has_block : Share → ℕ → Bool
has_block s b = b % s.shares == s.index - 1

-- whether a trial is one of the plan's, and of the share's: its block is
abbrev pub is_in_share : Share → Values → ℕ → Bool
is_in_share s v t = nat_lt t (trial_count v) && has_block s (block_of s.block_size v t)

-- the trials of a share, ascending
abbrev pub trials_of_share : Share → Values → List ℕ
trials_of_share s v = filter (is_in_share s v) (all_trials v)

-- a slip of a share: a true one, all of whose trials are of the share
pub record IsShareSlip (s : Share) (v : Values) (slip : Slip) : Type 0 where
  pub true : IsTrueSlip v slip
  pub own : All (λ t. IsTrue (is_in_share s v t)) (trials_in slip.piece)
