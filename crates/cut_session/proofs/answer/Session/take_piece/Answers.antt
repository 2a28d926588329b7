use Rattle.std.proofs.Common.{◌∙◌, sym, arith}
use Rattle.cut_wires.specs.Sending.{sending}
use Rattle.cut_session.proofs.SessionTraces.{ends_full}
use Rattle.cut_session.proofs.Feeding.{fed_ends, fed_limit, fed_fault, fed_on}
use Rattle.cut_session.proofs.answer.Session.take_piece.Goals as goal

pub returns-in-Err-clause-goes : goal.returns-in-Err-clause-goes
returns-in-Err-clause-goes g c = λ low first none_sent s.
    ends_full s c.requires.few none_sent c.leave.result (sending g.W.Wire.log c.leave.new.writer) c.requires.piece.0
    c.requires.piece.1 c.leave.ensures

pub returns-in-Err-answer_all-clause-goes : goal.returns-in-Err-answer_all-clause-goes
returns-in-Err-answer_all-clause-goes g c = λ low first none_sent s.
    fed_ends s _ c.min-count.result (c.in-Ok.ensures.reads s.stream s.messages s.read) c.in-Ok.ensures.side
    c.as_slice-messages.ensures.value (omega (arith, c.min-count.ensures, c.requires.few))
    (omega (arith, c.min-count.ensures)) none_sent c.in-Err-answer_all.end
    (sending g.W.Wire.log c.answer_all.new.writer)
    c.in-Err-answer_all.ensures.serves

pub returns-then-count-messages-clause-goes : goal.returns-then-count-messages-clause-goes
returns-then-count-messages-clause-goes g c = λ low first none_sent s.
    fed_limit s _ c.min-count.result (c.in-Ok.ensures.reads s.stream s.messages s.read) c.in-Ok.ensures.side
    c.as_slice-messages.ensures.value (omega (arith, c.min-count.ensures, c.requires.few))
    (omega (arith, c.min-count.ensures)) none_sent (sending g.W.Wire.log c.answer_all.new.writer)
    c.in-Ok-answer_all.ensures.serves c.leave-then-count-messages.result
    (sending g.W.Wire.log c.leave-then-count-messages.new.writer)
    (omega (arith, c.min-count.ensures, c.if-count-messages.true, c.requires.few)) c.if-count-messages.true
    c.leave-then-count-messages.ensures

pub returns-in-Some-clause-goes : goal.returns-in-Some-clause-goes
returns-in-Some-clause-goes g c = λ low first none_sent s.
    fed_fault s _ c.min-count.result (c.in-Ok.ensures.reads s.stream s.messages s.read) c.in-Ok.ensures.side
    c.as_slice-messages.ensures.value (omega (arith, c.min-count.ensures, c.requires.few))
    (omega (arith, c.min-count.ensures)) none_sent (sending g.W.Wire.log c.answer_all.new.writer)
    c.in-Ok-answer_all.ensures.serves c.in-Some.fault c.leave-in-Some.result
    (sending g.W.Wire.log c.leave-in-Some.new.writer) (omega (arith, c.if-count-messages.false))
    (sym c.in-Ok.ensures.fault ∙ c.in-Some.is) c.leave-in-Some.ensures

pub returns-clause-goes : goal.returns-clause-goes
returns-clause-goes g c = λ low first none_sent s.
    fed_on s _ c.min-count.result (c.in-Ok.ensures.reads s.stream s.messages s.read) c.in-Ok.ensures.side
    c.as_slice-messages.ensures.value (omega (arith, c.min-count.ensures, c.requires.few))
    (omega (arith, c.min-count.ensures)) none_sent (sending g.W.Wire.log c.answer_all.new.writer)
    c.in-Ok-answer_all.ensures.serves (omega (arith, c.if-count-messages.false))
    (sym c.in-Ok.ensures.fault ∙ c.in-None.is) c.requires.piece.0
