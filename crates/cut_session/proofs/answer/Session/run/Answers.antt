use Rattle.cut_wires.specs.Sending.{sending}
use Rattle.cut_session.proofs.SessionTraces.{concludes_at}
use Rattle.cut_session.proofs.answer.Session.run.Goals as goal

pub returns-clause-ends : goal.returns-clause-ends
returns-clause-ends g c =
    let log = g.W.Wire.log in
    let writer = c.serve.new.writer in
    concludes_at log c.args.self.now.hall.now c.args.self.now.pass.now.view c.serve.new.self.pass.now.view
    c.serve.result
    c.args.wire.now writer.wire.now _ _ writer.wire.ghost_name writer.sent (sending log c.new.result) c.new.ensures
    c.serve.ensures.ends assumption
