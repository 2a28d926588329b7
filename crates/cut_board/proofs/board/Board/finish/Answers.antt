use Rattle.std.proofs.Common.{◌∙◌, sym, subst, arith}
use Rattle.std.specs.Mem.Slots.{slots_items}
use Rattle.std.proofs.lemmas.List.{length-map}
use Rattle.cut_board.specs.Names.{view_of, views_of, seats_of}
use Rattle.cut_board.proofs.Ends.{IsEnd, ends_closed, drawn_once, reported}
use Rattle.cut_board.proofs.board.Board.finish.Goals as goal

-- the last state of the words
end : (c : goal.After-from_vec) → IsEnd (seats_of c.args.self) (views_of c.args.seats.items)
    (slots_items c.close_with-closed.result.words)
end c =
    let key = c.args.self.table.shared.key in
    let given = views_of c.args.seats.items in
    subst (λ n. IsEnd n given (slots_items c.close_with-closed.result.words)) c.args.self.sized.1
    (ends_closed key.studies key.seats _ _ _ _ given c.close_with-closed.ensures.values.2
    c.gather-whole.ensures.gathered (omega (arith, c.args.self.sized.1, length-map c.args.seats.items view_of)))

pub returns-clause-totals : goal.returns-clause-totals
returns-clause-totals c =
    grind (arith, reported, end)

pub returns-clause-numbers : goal.returns-clause-numbers
returns-clause-numbers c study _ = drawn_once (views_of c.args.seats.items) _ (end c).done study

pub returns-clause-seen : goal.returns-clause-seen
returns-clause-seen c study _ = (end c).seen study

pub returns-clause-whole : goal.returns-clause-whole
returns-clause-whole c = sym (length-map c.args.seats.items view_of) ∙ (end c).many
