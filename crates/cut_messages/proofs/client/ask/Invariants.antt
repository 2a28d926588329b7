use Rattle.cut_messages.proofs.Heard.{Listens}
use Rattle.cut_messages.proofs.client.ask.Given as goal

-- the client listens
abbrev pub invariant-loop : goal.invariant-loop
invariant-loop g l = Listens l.plan_text l.reader l.counter (g.W.Wire.log l.fn.wire) (g.W.Wire.log l.wire)
    (g.O.Wire.log l.fn.output) (g.O.Wire.log l.output)
