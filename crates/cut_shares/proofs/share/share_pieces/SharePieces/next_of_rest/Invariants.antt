use Rattle.std.proofs.Common.{◌≡◌, ℕ, ◌≤◌, [], ◌∷◌}
use Rattle.cut_shares.specs.share.inside.Pieces.{own_times}
use Rattle.cut_shares.proofs.share.share_pieces.SharePieces.next_of_rest.Given as goal

-- nothing of the share was taken off
abbrev pub invariant-loop-self : goal.invariant-loop-self
invariant-loop-self l = record {
  plan : l.self.plan.now ≡ l.fn.self.plan.now;
  share : l.self.share ≡ l.fn.self.share;
  later : l.self.later.now ≡ l.fn.self.later.now;
  times : (t : ℕ) → own_times l.fn.self.share l.fn.self.plan.now (l.self.rest ∷ []) t
      ≡ own_times l.fn.self.share l.fn.self.plan.now (l.fn.self.rest ∷ []) t;
  no_more : l.self.rest.count ≤ l.fn.self.rest.count;
}

abbrev pub decreases-loop-self : goal.decreases-loop-self
decreases-loop-self l = l.self.rest.count
