use Rattle.std.proofs.Common.{◌≡◌, ◌≤◌, ◌-◌, ◌^◌, ◌∷◌, min, ℕ}
use Rattle.cut_shares.specs.share.inside.Pieces.{own_trials, trials_in_all}
use Rattle.cut_shares.proofs.share.share_pieces.SharePieces.trials_left.Given as goal

abbrev pub decreases-loop-piece : goal.decreases-loop-piece
decreases-loop-piece l = trials_in_all (l.pieces.rest ∷ l.pieces.later.now)

-- those that are no longer left are counted
abbrev pub invariant-loop-piece : goal.invariant-loop-piece
invariant-loop-piece l =
    let all : ℕ = own_trials l.self.share l.self.plan.now (l.self.rest ∷ l.self.later.now) in
    let more : ℕ = own_trials l.self.share l.self.plan.now (l.pieces.rest ∷ l.pieces.later.now) in record {
      plan : l.pieces.plan.now ≡ l.self.plan.now;
      share : l.pieces.share ≡ l.self.share;
      fewer : more ≤ all;
      counted : l.trials ≡ min (all - more) (2 ^ 64 - 1);
    }
