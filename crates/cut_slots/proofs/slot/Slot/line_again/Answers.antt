use Rattle.std.proofs.Common.{◌∙◌, ap}
use Rattle.cut_ledger.specs.Contents.{Contents}
use Rattle.cut_slots.specs.Lines.{full_line}
use Rattle.cut_slots.proofs.FullLines.{done_line}
use Rattle.cut_slots.proofs.slot.Slot.line_again.Goals as goal

pub returns-in-Ok-clause-line : goal.returns-in-Ok-clause-line
returns-in-Ok-clause-line g c =
    let held : Contents = c.ledger.result.now.contents in
    let book = c.in-Some.book in
    let same = c.is_opened_as-is_its_book.ensures.yes (c.if-not-is_its_book.false) in
    c.in-Ok.ensures.ok
    ∙ done_line held c.args.asked.cell c.in-Ok.ensures.done
    ∙ ap (λ (l : Contents). full_line l.plan l.base c.args.asked.cell) c.ledger.ensures
    ∙ ap (λ v. full_line v book.state.ledger.base c.args.asked.cell) same.0
    ∙ ap (λ base. full_line c.args.asked.opened.now.plan base c.args.asked.cell) same.1
