use Rattle.std.proofs.Common.{◌≡◌, ◌∷◌}
use Rattle.cut_shares.proofs.Words.{IsUpTo, trials_in_all}
use Rattle.cut_shares.proofs.share.batch.run_pieces.Given as goal

-- the batches so far are worked off
abbrev pub invariant-loop-pieces : goal.invariant-loop-pieces
invariant-loop-pieces g l = record {
  plan : l.pieces.plan.now ≡ l.fn.pieces.plan.now;
  share : l.pieces.share ≡ l.fn.pieces.share;
  upto : IsUpTo g.D.Disk.log l.is_whole l.fn.pieces.share l.fn.pieces.plan.now
      (l.fn.pieces.rest ∷ l.fn.pieces.later.now) (l.pieces.rest ∷ l.pieces.later.now) l.fn.journal l.journal;
}

abbrev pub decreases-loop-pieces : goal.decreases-loop-pieces
decreases-loop-pieces g l = trials_in_all (l.pieces.rest ∷ l.pieces.later.now)
