use Rattle.std.proofs.Common.{◌∙◌, ap}
use Rattle.cut_book.specs.History.{accepted_slip}
use Rattle.cut_book.proofs.Legal.{legal_result, noted, result_step, said}
use Rattle.cut_book.proofs.Refused.{refused_hands}
use Rattle.cut_book.proofs.book.Book.refuse.Goals as goal

pub push-requires-clause-legal : goal.push-requires-clause-legal
push-requires-clause-legal g c =
    let is = rw (← c.self.view_is) at c.requires in
    legal_result c.call_of-call.result c.self.invariant c.reserve.ensures.reserved c.call_of-call.ensures.call
    c.call_of-call.ensures.real is.answered

pub invariant_of-self-2 : goal.invariant_of-self-2
invariant_of-self-2 g c =
    let is = rw (← c.self.view_is) at c.requires in
    let called = c.call_of-call.ensures.call in
    said c.self.invariant c.reserve.ensures.reserved c.push.ensures.noted c.push.ensures.room
    (rw is.state at (result_step c.call_of-call.result called c.call_of-call.ensures.real is.answered))
    (ap accepted_slip called ∙ is.slips)

pub returns-clause-answer : goal.returns-clause-answer
returns-clause-answer g c =
    let is = rw (← c.self.view_is) at c.requires in
    rw (← c.self.view_is, c.into_result.ensures, is.reported)
    (refused_hands is (noted c.reserve.ensures.reserved c.push.ensures.noted) c.call_of-call.ensures.call)
