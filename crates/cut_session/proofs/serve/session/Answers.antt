use Rattle.cut_session.proofs.SessionTraces.{seen_at}
use Rattle.cut_session.proofs.serve.session.Goals as goal

pub returns-clause-ends : goal.returns-clause-ends
returns-clause-ends g c =
    let log = g.W.Wire.log in
    seen_at c.args.hall.now c.args.pass.now.view c.run.result (log c.args.wire.now) (log c.run.new.wire)
    c.run.new.self.pass.now c.pass-1.given.0 _ c.run.new.self.pass.ghost_name c.run.ensures.stays.1 (assumption)
    c.run.ensures.ends
