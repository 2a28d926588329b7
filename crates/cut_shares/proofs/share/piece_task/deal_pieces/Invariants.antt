use Rattle.std.proofs.Common.{◌≡◌, ℕ, ◌+◌, ◌≤◌, ◌∷◌, take, All}
use Rattle.cut_shares.proofs.Words.{IsSharePiece, own_times, pieces_of, times_in, trials_in_all}
use Rattle.cut_shares.proofs.share.piece_task.deal_pieces.Given as goal

-- the tasks so far have the first pieces
abbrev pub invariant-loop-count : goal.invariant-loop-count
invariant-loop-count l = record {
  plan : l.pieces.plan.now ≡ l.fn.pieces.plan.now;
  share : l.pieces.share ≡ l.fn.pieces.share;
  own : All (IsSharePiece l.fn.pieces.share l.fn.pieces.plan.now) (pieces_of (take l.count l.tasks));
  taken : (t : ℕ) → times_in (pieces_of (take l.count l.tasks)) t
      + own_times l.fn.pieces.share l.fn.pieces.plan.now (l.pieces.rest ∷ l.pieces.later.now) t
      ≡ own_times l.fn.pieces.share l.fn.pieces.plan.now (l.fn.pieces.rest ∷ l.fn.pieces.later.now) t;
  fewer : trials_in_all (l.pieces.rest ∷ l.pieces.later.now) + l.count
      ≤ trials_in_all (l.fn.pieces.rest ∷ l.fn.pieces.later.now);
}
