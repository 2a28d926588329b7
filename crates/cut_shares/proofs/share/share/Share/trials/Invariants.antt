use Rattle.std.proofs.Common.{◌≡◌, ◌*◌}
use Rattle.cut_shares.proofs.Words.{count_by, is_in_share, range_with_len}
use Rattle.cut_shares.proofs.share.share.Share.trials.Given as goal

-- the share's trials in the cells so far are counted
abbrev pub invariant-loop-cell : goal.invariant-loop-cell
invariant-loop-cell l =
    l.count ≡ count_by (is_in_share l.self l.plan) (range_with_len 0 (l.cell * l.plan.repeats))
