use Rattle.std.proofs.Common.{◌∙◌, true, false, refl, sym, ap}
use Rattle.cut_table.specs.Table.{row_of}
use Rattle.cut_book.specs.declared.call.Call.TheVariants.{Row}
use Rattle.cut_book.specs.Book.{BookValue}
use Rattle.cut_book.proofs.Legal.{legal_on, said}
use Rattle.cut_book.proofs.book.Book.row.Goals as goal

pub push-requires-clause-legal : goal.push-requires-clause-legal
push-requires-clause-legal g c =
    let within = rw (← c.self.view_is) at c.requires in
    legal_on (Row c.args.cell true) _ c.self.invariant c.reserve.ensures.reserved
    (within, sym c.in-Ok.ensures.done, refl)

pub invariant_of-self-in-Ok : goal.invariant_of-self-in-Ok
invariant_of-self-in-Ok g c =
    let within = rw (← c.self.view_is) at c.requires in
    said c.self.invariant c.reserve.ensures.reserved c.push.ensures.noted c.push.ensures.room
    (within, sym c.in-Ok.ensures.done, refl) refl

pub push-requires-in-Err-NotDone-clause-legal : goal.push-requires-in-Err-NotDone-clause-legal
push-requires-in-Err-NotDone-clause-legal g c =
    let within = rw (← c.self.view_is) at c.requires in
    let reported = rw c.in-Err-NotDone.field-0-is at c.in-Err-NotDone.ensures.err in
    legal_on (Row c.args.cell false) _ c.self.invariant c.reserve.ensures.reserved (within, sym reported.1, refl)

pub invariant_of-self-in-Err-NotDone : goal.invariant_of-self-in-Err-NotDone
invariant_of-self-in-Err-NotDone g c =
    let within = rw (← c.self.view_is) at c.requires in
    let reported = rw c.in-Err-NotDone.field-0-is at c.in-Err-NotDone.ensures.err in
    said c.self.invariant c.reserve.ensures.reserved c.push-in-Err-NotDone.ensures.noted
    c.push-in-Err-NotDone.ensures.room (within, sym reported.1, refl) refl

pub returns-in-Ok-clause-line : goal.returns-in-Ok-clause-line
returns-in-Ok-clause-line g c = c.in-Ok.ensures.ok
    ∙ ap (λ (p : BookValue _). row_of p.state.ledger c.args.cell) c.self.view_is
