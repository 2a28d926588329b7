use Rattle.std.proofs.Common.{◌≡◌, ◌+◌, ◌∙◌, List, [], ◌∷◌, ◌++◌, All, Some, sym, ap, subst, append_assoc}
use Rattle.std.proofs.lemmas.List.Elements.{All-nil, All-pop, All-push}
use Rattle.cut_board.specs.declared.seat.Seat.{Seat}
use Rattle.cut_board.specs.Names.{board_id, board_of}
use Rattle.cut_slots.specs.Closing.{IsTakenApart}
use Rattle.cut_slots.specs.Pass.{Holding}
use Rattle.cut_slots.proofs.Apart.{one_apart, one_more_apart}
use Rattle.cut_slots.proofs.closing.take_apart.Goals as goal

pub loop-pass-init : goal.loop-pass-init
loop-pass-init g c =
    let first : Holding = c.in-Some.first in
    let seat : Seat = c.first.inside.seat in
    let own = All-pop (λ (p : Holding). p.hall ≡ board_id c.args.board.now) c.args.passes.items c.pop.new.self.items
    (Some first) c.in-Some.ensures.items c.requires.own in
    let mine : board_of seat ≡ board_id c.args.board.now = ap (λ (p : Holding). p.hall) c.first.view_is ∙ own.1 in
    let items : c.push.new.self.items ≡ seat ∷ [] =
    c.in_ok-push.ensures.items ∙ ap (λ (l : List Seat). l ++ seat ∷ []) c.new-seats.ensures.items in
    record {
      own = subst (All (λ (s : Seat). board_of s ≡ board_id c.args.board.now)) (sym items)
          (All-push (λ (s : Seat). board_of s ≡ board_id c.args.board.now) [] seat
          (All-nil (λ (s : Seat). board_of s ≡ board_id c.args.board.now)) mine);
      left_own = own.0;
      taken = (
        first ∷ [],
        c.in-Some.ensures.items,
        subst (λ (seats : List Seat). IsTakenApart (first ∷ []) seats c.first.inside.made.parts
            c.first.inside.made.amount)
            (sym items)
            (one_apart first seat c.first.inside.made.parts c.first.inside.made.amount
            (ap (λ (p : Holding). p.view) c.first.view_is) c.first.invariant
            (ap (λ (p : Holding). p.made) c.first.view_is)),
      );
    }

pub loop-pass-preserved : goal.loop-pass-preserved
loop-pass-preserved g c =
    let pass : Holding = c.in-Some-pop.pass in
    let seat : Seat = c.pass.inside.seat in
    let view = c.pass.view_is in
    let left : List Holding = c.pop-in-loop-pass.new.self.items in
    let taken = c.loop-pass.invariant.taken in
    let own = All-pop (λ (p : Holding). p.hall ≡ board_id c.args.board.now) c.loop-pass.passes.items left (Some pass)
    c.in-Some-pop.ensures.items c.loop-pass.invariant.left_own in
    let mine : board_of seat ≡ board_id c.args.board.now = ap (λ (p : Holding). p.hall) view ∙ own.1 in
    let more = one_more_apart taken.0 c.loop-pass.seats.items pass seat c.loop-pass.made.parts c.loop-pass.made.amount
    c.merge.new.self.parts c.merge.new.self.amount
    (ap (λ (p : Holding). p.view) view)
    (c.merge.ensures.parts ∙ ap (λ n. c.loop-pass.made.parts + n) c.pass.invariant)
    (c.merge.ensures.amount ∙ ap (λ n. c.loop-pass.made.amount + n) (ap (λ (p : Holding). p.made) view))
    taken.2 in
    record {
      own = subst (All (λ (s : Seat). board_of s ≡ board_id c.args.board.now)) (sym c.in_ok-push-2.ensures.items)
          (All-push (λ (s : Seat). board_of s ≡ board_id c.args.board.now) c.loop-pass.seats.items seat
          c.loop-pass.invariant.own mine);
      left_own = own.0;
      taken = (
        pass ∷ taken.0,
        taken.1 ∙ ap (λ (l : List Holding). l ++ taken.0) c.in-Some-pop.ensures.items
            ∙ append_assoc left (pass ∷ []) taken.0,
        subst (λ (seats : List Seat). IsTakenApart (pass ∷ taken.0) seats c.merge.new.self.parts
            c.merge.new.self.amount)
            (sym c.in_ok-push-2.ensures.items) more,
      );
    }
