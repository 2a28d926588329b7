-- True slips that are apart are good ones to begin with.
use Rattle.std.proofs.Common.{◌≡◌, ℕ, suc, ◌+◌, ◌≤◌, List, ◌∷◌, ◌++◌, take, drop, get_or, sym, ap}
use Rattle.std.proofs.Common.{◌∙◌, arith, take-append-drop}
use Rattle.std.proofs.Math.Seq.{drop-cons}
use Rattle.std.proofs.lemmas.List.{map-append}
use Rattle.std.proofs.lemmas.List.Elements.{All-from_recursion}
use Rattle.cut_lists.proofs.Parts.{count_first}
use Rattle.cut_lists.proofs.Intervals.{within_is}
use Rattle.cut_lists.proofs.Ranges.{list_any_none_passing}
use Rattle.cut_outcome.specs.Outcome.{cell_at}
use Rattle.cut_ledger.proofs.Words.{AreGood, ArePossible, AreTrue, IsGood, IsTrue, IsTrueSlip}
use Rattle.cut_ledger.proofs.Words.{PiecesHavePossibleTotals, Slip, Values, is_in, is_in_base, is_piece}
use Rattle.cut_ledger.proofs.Words.{pieces_of_slips, times_in}
use Rattle.cut_ledger.proofs.Law.{times-append, times_once}

-- a slip with possible totals, none of whose trials is in those before it
pub apart_good : (v : Values) (pre post : List Slip) (s : Slip) → IsTrue (is_piece v s.piece)
    → ArePossible v (cell_at v s.piece.first) s.piece.count s.totals
    → ((t : ℕ) → times_in (pieces_of_slips (pre ++ s ∷ post)) t ≤ 1) → IsGood v pre s
apart_good v pre post s piece possible apart = record {
  piece = piece;
  apart = list_any_none_passing (is_in_base pre) s.piece.first s.piece.count (λ t low high held.
      (let few = rw (map-append (λ (q : Slip). q.piece) pre (s ∷ post)) at (apart t) in
      let split = times-append (pieces_of_slips pre) (pieces_of_slips (s ∷ post)) t in
      let first = count_first (λ p. is_in p t) s.piece (pieces_of_slips post) in
      let here = within_is s.piece.first (s.piece.first + s.piece.count) t low high in
      grind (arith, times_once pre t)));
  possible = possible;
}

pub true_are_good : PiecesHavePossibleTotals → (v : Values) (ss : List Slip) → AreTrue v ss → AreGood v ss
true_are_good possible v ss are = λ i d low within.
    (let whole : take i ss ++ get_or ss i d ∷ drop (suc i) ss
    ≡ ss = ap (λ xs. take i ss ++ xs) (sym (drop-cons ss i d within)) ∙ take-append-drop i ss in
    let s : Slip = get_or ss i d in
    let is = All-from_recursion (IsTrueSlip v) ss are.each i d within in
    apart_good v (take i ss) (drop (suc i) ss) s is.piece (rw is.totals (possible v s.piece is.piece))
    (λ t. rw whole (are.apart t)))
