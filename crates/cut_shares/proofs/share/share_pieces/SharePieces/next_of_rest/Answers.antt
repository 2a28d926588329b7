use Rattle.std.proofs.Common.{◌≡◌, ℕ, ◌+◌, true, [], ◌∷◌, cond, arith}
use Rattle.cut_shares.proofs.Words.{Piece, Share, Values, is_in, is_in_share, one_if, own_times}
use Rattle.cut_shares.proofs.share.share_pieces.SharePieces.next_of_rest.Goals as goal

-- a block that is taken off a piece, all of it of the share or none
block_taken : (s now : Share) (v w : Values) (p q rest : Piece) (t : ℕ) → now ≡ s → w ≡ v
    → ((i : ℕ) → is_in q i ≡ true → is_in_share now w i ≡ is_in_share now w q.first)
    → one_if (is_in q t) + one_if (is_in rest t) ≡ one_if (is_in p t)
    → cond (is_in_share now w q.first) (one_if (is_in q t)) 0 + own_times s v (rest ∷ []) t ≡ own_times s v (p ∷ []) t
block_taken s now v w p q rest t share plan alike parts = grind arith

pub returns-then-has-clause-taken : goal.returns-then-has-clause-taken
returns-then-has-clause-taken c =
    let old = c.loop-self.self in
    let off = block_taken c.args.self.now.share old.share c.args.self.now.plan.now old.plan.now old.rest
    c.take_block-piece.result c.take_block-piece.new.self.rest in
    grind (arith, off)

pub loop-self-preserved : goal.loop-self-preserved
loop-self-preserved c =
    let old = c.loop-self.self in
    let off = block_taken c.args.self.now.share old.share c.args.self.now.plan.now old.plan.now old.rest
    c.take_block-piece.result c.take_block-piece.new.self.rest in
    grind (arith, off)
