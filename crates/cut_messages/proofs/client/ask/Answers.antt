use Rattle.std.proofs.Common.{arith}
use Rattle.cut_messages.proofs.Heard.{goes_on, is_done, has_failed}
use Rattle.cut_messages.proofs.client.ask.Goals as goal

pub loop-preserved : goal.loop-preserved
loop-preserved g c =
    let l = c.loop.invariant in
    goes_on l c.read.new.buffer c.in-Ok-read.count c.take_piece.new.reader (g.W.Wire.log c.read.new.self)
    (g.O.Wire.log c.take_piece.new.output) c.in-Ok-read.ensures.reads (omega (arith, c.if-count-eq0.false))
    c.in-Ok-read.ensures.bound c.take_piece.ensures.side
    (rw c.in-Ok-More.field-0-is at (c.in-Ok-More.ensures.steps l.stream l.messages l.read))

pub returns-in-Ok-Done-clause-asks : goal.returns-in-Ok-Done-clause-asks
returns-in-Ok-Done-clause-asks g c =
    let l = c.loop.invariant in (
      omega (arith, c.if-plan_text.false),
      is_done l c.read.new.buffer c.in-Ok-read.count c.take_piece.new.reader (g.W.Wire.log c.read.new.self)
          (g.O.Wire.log c.take_piece.new.output) c.in-Ok-read.ensures.reads (omega (arith, c.if-count-eq0.false))
          c.in-Ok-read.ensures.bound c.take_piece.ensures.side
          (rw c.in-Ok-Done.field-0-is at (c.in-Ok-Done.ensures.steps l.stream l.messages l.read)),
    )

pub returns-in-Err-take_piece-clause-asks : goal.returns-in-Err-take_piece-clause-asks
returns-in-Err-take_piece-clause-asks g c =
    grind (
      arith,
      has_failed c.loop.invariant c.read.new.buffer c.in-Ok-read.count c.take_piece.new.reader
          (g.W.Wire.log c.read.new.self) (g.O.Wire.log c.take_piece.new.output) c.in-Ok-read.ensures.reads,
    )
