-- Gaps end within the plan, and there are no more pieces than trials.
use Rattle.std.proofs.Common.{◌∙◌, All, sym, ap, subst}
use Rattle.std.proofs.lemmas.Result.{IfOk-weaker}
use Rattle.cut_ledger.proofs.Words.{IsTrue, Piece, flat_map, is_piece, parts_of}
use Rattle.cut_ledger.proofs.GapPieces.{pieces_are_pieces}
use Rattle.cut_ledger.proofs.PieceCounts.{few_pieces, gaps_within}
use Rattle.cut_ledger.proofs.ledger.Ledger.divide.Goals as goal

pub of_gaps-requires-clause-fit : goal.of_gaps-requires-clause-fit
of_gaps-requires-clause-fit c = rw (c.deref.ensures.value, c.in_ok-gaps.ensures.value)
    (gaps_within c.spans_are_what_passes.ensures.within c.args.self.now.contents c.gaps.ensures.plan)

pub of_gaps-requires-clause-few : goal.of_gaps-requires-clause-few
of_gaps-requires-clause-few c = rw (c.deref.ensures.value, c.in_ok-gaps.ensures.value)
    (few_pieces c.spans_are_what_passes.ensures.cover c.spans_are_what_passes.ensures.within c.args.self.now.contents
    c.args.size c.gaps.ensures.plan c.requires)

pub returns-clause-value : goal.returns-clause-value
returns-clause-value c =
    rw (c.deref.ensures.value, c.in_ok-gaps.ensures.value) at c.of_gaps.ensures

pub returns-clause-pieces : goal.returns-clause-pieces
returns-clause-pieces c =
    let l = c.args.self.now.contents in
    let gaps = c.deref.ensures.value ∙ c.in_ok-gaps.ensures.value in
    IfOk-weaker c.of_gaps.result _ _ (λ ps is. subst (All (λ (p : Piece). IsTrue (is_piece l.plan p)))
    (sym (is ∙ ap (flat_map (parts_of c.args.size)) gaps)) (pieces_are_pieces c.spans_are_what_passes.ensures.within l
    c.args.size c.gaps.ensures.plan c.requires)) c.of_gaps.ensures
