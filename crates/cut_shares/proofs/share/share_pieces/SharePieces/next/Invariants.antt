use Rattle.std.proofs.Common.{◌≡◌, ℕ, ◌≤◌, ◌∷◌, length}
use Rattle.cut_shares.specs.share.inside.Pieces.{own_times, trials_in_all}
use Rattle.cut_shares.proofs.share.share_pieces.SharePieces.next.Given as goal

-- nothing of the share was taken off
abbrev pub invariant-loop-piece : goal.invariant-loop-piece
invariant-loop-piece l = record {
  plan : l.self.plan.now ≡ l.fn.self.plan.now;
  share : l.self.share ≡ l.fn.self.share;
  times : (t : ℕ) → own_times l.fn.self.share l.fn.self.plan.now (l.self.rest ∷ l.self.later.now) t
      ≡ own_times l.fn.self.share l.fn.self.plan.now (l.fn.self.rest ∷ l.fn.self.later.now) t;
  no_more : trials_in_all (l.self.rest ∷ l.self.later.now)
      ≤ trials_in_all (l.fn.self.rest ∷ l.fn.self.later.now);
}

abbrev pub decreases-loop-piece : goal.decreases-loop-piece
decreases-loop-piece l = length l.self.later.now
