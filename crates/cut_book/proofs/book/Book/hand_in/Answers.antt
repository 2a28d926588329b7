use Rattle.std.proofs.lemmas.Grind.{common_steps}
use Rattle.std.proofs.Common.{◌≡◌, ◌∙◌, ap, refl, arith}
use Rattle.cut_ledger.specs.Account.{Account}
use Rattle.cut_ledger.specs.Contents.{with_piece}
use Rattle.cut_book.proofs.Legal.{legal_result}
use Rattle.cut_book.proofs.Entered.{accepted_answer, accepted_book, failed_answer, failed_book}
use Rattle.cut_book.proofs.book.Book.hand_in.Goals as goal

pub push-requires-clause-legal : goal.push-requires-clause-legal
push-requires-clause-legal g c =
    let fit = rw (← c.self.view_is) at c.in_default.ensures.none in
    legal_result c.call_of-call.result c.self.invariant c.reserve.ensures.reserved
    (rw c.in_ok-reserve-2.ensures.ok at c.call_of-call.ensures.call) c.call_of-call.ensures.real (accepted_answer fit)

pub push-requires-in-Err-clause-legal : goal.push-requires-in-Err-clause-legal
push-requires-in-Err-clause-legal g c =
    let fit = rw (← c.self.view_is) at c.in_default.ensures.none in
    legal_result c.call_of-call-in-Err.result c.self.invariant c.reserve.ensures.reserved
    (rw c.in_ok-reserve-2.ensures.ok at c.call_of-call-in-Err.ensures.call) c.call_of-call-in-Err.ensures.real
    (failed_answer fit (c.self.invariant.has_journal ∙ c.in-Err.ensures.failed refl))

pub invariant_of-self-in-Err : goal.invariant_of-self-in-Err
invariant_of-self-in-Err g c =
    failed_book c.self.invariant c.reserve.ensures.reserved c.push-in-Err.ensures.noted c.push-in-Err.ensures.room
    (rw (← c.self.view_is) at c.in_default.ensures.none) c.call_of-call-in-Err.ensures.real
    (ap (λ (a : Account). a.contents) c.in_ok-reserve-2.ensures.ok)
    (rw c.in_ok-reserve-2.ensures.ok at c.call_of-call-in-Err.ensures.call)
    c.in-Err.ensures.appended (c.in-Err.ensures.failed refl) c.in-Err.ensures.follows c.in-Err.ensures.faults

-- the piece was entered, since there was room for it
held : (g : _) (c : goal.After-take g) → c.take.new.self.contents
    ≡ with_piece c.self.inside.ledger.contents c.args.offered.now.piece
held g c =
    grind arith

pub invariant_of-self-in-Ok : goal.invariant_of-self-in-Ok
invariant_of-self-in-Ok g c =
    accepted_book c.self.invariant c.reserve.ensures.reserved c.push.ensures.noted c.push.ensures.room
    (rw (← c.self.view_is) at c.in_default.ensures.none) c.call_of-call.ensures.real (held g c)
    (rw c.in_ok-reserve-2.ensures.ok at c.call_of-call.ensures.call)
    c.in-Ok.ensures.appended c.in-Ok.ensures.follows c.in-Ok.ensures.faults

pub returns-in-Ok-clause-answer : goal.returns-in-Ok-clause-answer
returns-in-Ok-clause-answer g c =
    grind (arith, common_steps)
