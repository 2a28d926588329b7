use Rattle.std.proofs.Common.{sym, arith}
use Rattle.cut_wires.specs.Sending.{sending}
use Rattle.cut_session.proofs.SessionTraces.{serves_given, ends_between, ends_within, ends_unread}
use Rattle.cut_session.proofs.answer.Session.take_next.Goals as goal

pub returns-in-Err-clause-goes : goal.returns-in-Err-clause-goes
returns-in-Err-clause-goes g c = λ low first none_sent s.
    (let log = g.W.Wire.log in
    ends_unread s (sending log c.read.new.self) c.leave.result (sending log c.leave.new.writer) c.requires.few none_sent
    c.in-Err.ensures.reads c.leave.ensures)

pub returns-in-Ok-finish-clause-goes : goal.returns-in-Ok-finish-clause-goes
returns-in-Ok-finish-clause-goes g c = λ low first none_sent s.
    ends_between s (sending g.W.Wire.log c.read.new.self) c.read.new.buffer c.in-Ok.count c.requires.few none_sent
    c.in-Ok.ensures.reads (omega (arith, c.if-count-eq0.true)) (sym c.in-Ok-finish.ensures)

pub returns-in-Err-finish-clause-goes : goal.returns-in-Err-finish-clause-goes
returns-in-Err-finish-clause-goes g c = λ low first none_sent s.
    (let log = g.W.Wire.log in
    ends_within s (sending log c.read.new.self) c.read.new.buffer c.in-Ok.count c.leave-in-Err-finish.result
    c.in-Err-finish.field-0 (sending log c.leave-in-Err-finish.new.writer) c.requires.few none_sent
    c.in-Ok.ensures.reads
    (omega (arith, c.if-count-eq0.true)) (sym c.in-Err-finish.ensures) c.leave-in-Err-finish.ensures)

pub returns-clause-goes : goal.returns-clause-goes
returns-clause-goes g c = λ low first none_sent s.
    (let given = serves_given s (sending g.W.Wire.log c.read.new.self) c.read.new.buffer c.in-Ok.count
    c.in-Ok.ensures.reads (omega (arith, c.if-count-eq0.false)) in
    rw given.1 (c.take_piece.ensures.goes low first none_sent given.0))
