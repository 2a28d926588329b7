use Rattle.std.proofs.Common.{◌≡◌, ◌*◌, min}
use Rattle.cut_shares.proofs.Words.{count_by, is_in_share, range_with_len}
use Rattle.cut_shares.proofs.share.share.Share.trials_in_cell.Given as goal

-- the share's trials in the blocks so far are counted
abbrev pub invariant-loop-block : goal.invariant-loop-block
invariant-loop-block l =
    l.count ≡ count_by (is_in_share l.self l.plan)
    (range_with_len (l.cell * l.plan.repeats) (min (l.block * l.self.block_size) l.plan.repeats))
