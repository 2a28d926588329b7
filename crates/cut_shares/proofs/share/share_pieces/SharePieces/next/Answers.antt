use Rattle.std.proofs.lemmas.List.Elements.{All-head, All-rest}
use Rattle.cut_shares.proofs.Words.{IsTrue, Piece, is_piece}
use Rattle.cut_shares.proofs.share.share_pieces.SharePieces.next.Goals as goal

pub invariant_of-self-clause-rest_fits : goal.invariant_of-self-clause-rest_fits
invariant_of-self-clause-rest_fits c = λ _.
    All-head (λ (q : Piece). IsTrue (is_piece c.next_of_rest.new.self.plan.now q)) c.in-Some-split_first.first.now
    c.in-Some-split_first.later.now
    (rw c.in-Some-split_first.ensures.cases.0 at c.next_of_rest.new.self.later_fit)

pub invariant_of-self-clause-later_fit : goal.invariant_of-self-clause-later_fit
invariant_of-self-clause-later_fit c =
    All-rest (λ (q : Piece). IsTrue (is_piece c.next_of_rest.new.self.plan.now q)) c.in-Some-split_first.first.now
    c.in-Some-split_first.later.now c.next_of_rest.new.self.later.now c.in-Some-split_first.ensures.cases.0
    c.next_of_rest.new.self.later_fit
