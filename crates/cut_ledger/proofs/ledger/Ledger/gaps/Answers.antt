-- Each cell adds its own gaps.
use Rattle.std.proofs.Common.{◌≡◌, ◌∙◌, ℕ, ◌*◌, ◌∷◌, [], ◌++◌, not, List, map, refl, sym, ap, subst, arith}
use Rattle.std.proofs.lemmas.List.{map-append}
use Rattle.std.proofs.lemmas.Result.{IfOk-weaker}
use Rattle.cut_sets.specs.declared.ranges.span.Span.{Span}
use Rattle.cut_sets.specs.ranges.Spans as all
use Rattle.cut_ledger.proofs.Words.{All, Contents, IsTrue, Piece, flat_map, gaps_of, has, is_piece, piece_at}
use Rattle.cut_ledger.proofs.CellLemmas.{one_cell_more}
use Rattle.cut_ledger.proofs.GapPieces.{gaps_are_pieces}
use Rattle.cut_ledger.proofs.ledger.Ledger.gaps.Goals as goal

abbrev spans_in : Contents → ℕ → List Span
spans_in l c = all.spans (λ t. not (has l t)) (c * l.plan.repeats) l.plan.repeats

pub loop-cell-preserved : goal.loop-cell-preserved
loop-cell-preserved c =
    let i : ℕ = c.loop-cell.cell in
    let added : List Span → List Span = λ xs. c.loop-cell.gaps.items ++ xs in
    c.in_ok-gaps_into.ensures
    ∙ rw (c.span_of_cell-span.ensures.first, c.span_of_cell-span.ensures.count)
    (ap (λ a. added (spans_in a.contents i)) c.self.view_is
    ∙ rw c.loop-cell.invariant (one_cell_more (spans_in c.args.self.now.contents) i))

pieces_are : (f : ℕ → List Span) (cs : List ℕ) → map piece_at (flat_map f cs) ≡ flat_map (λ c. map piece_at (f c)) cs
pieces_are f [] = refl
pieces_are f (c ∷ cs) = grind (arith, map-append, pieces_are f cs)

value : (c : goal.After-drop-gaps-2) (gaps : List Piece) → gaps ≡ map piece_at c.deref.result.now → gaps
    ≡ gaps_of c.args.self.now.contents
value c gaps is =
    grind (arith, pieces_are)

pub returns-clause-value : goal.returns-clause-value
returns-clause-value c = IfOk-weaker c.pieces_at.result _ _ (λ gaps is. value c gaps.items is) c.pieces_at.ensures

pub returns-clause-pieces : goal.returns-clause-pieces
returns-clause-pieces c =
    let l : Contents = c.args.self.now.contents in
    IfOk-weaker c.pieces_at.result _ _ (λ gaps is. subst (All (λ (p : Piece). IsTrue (is_piece l.plan p)))
    (sym (value c gaps.items is)) (gaps_are_pieces c.spans_are_what_passes.ensures.within l)) c.pieces_at.ensures
