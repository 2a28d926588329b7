use Rattle.std.proofs.Common.{◌≡◌, ◌∙◌, Bool, true, Ok, Some, ap, subst}
use Rattle.cut_slots.specs.Lines.{full_line}
use Rattle.cut_slots.specs.inside.Slot.{CanGive}
use Rattle.cut_slots.proofs.FullLines.{done_line}
use Rattle.cut_slots.proofs.slot.Slot.line.Goals as goal

pub returns-in-Ok-clause-line : goal.returns-in-Ok-clause-line
returns-in-Ok-clause-line g c =
    let book = c.in-Some.book in
    let opened = c.args.asked.opened.now in
    let cell = c.args.asked.cell in
    let is : c.args.self.now.book ≡ Some book = c.in-Some.is in
    let answers = subst (λ (is_done : Bool). CanGive (Ok is_done) opened cell c.args.self.now.book)
    c.if-not-branch.false c.in_ok-can_give.ensures.answers in
    let same = (subst (λ b. CanGive (Ok true) opened cell b) is answers).0 in
    c.in-Ok.ensures.line
    ∙ done_line book.state.ledger cell c.in-Ok.ensures.asked.0
    ∙ ap (λ v. full_line v book.state.ledger.base cell) same.0
    ∙ ap (λ base. full_line opened.plan base cell) same.1
