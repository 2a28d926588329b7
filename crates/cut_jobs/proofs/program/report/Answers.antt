use Rattle.cut_jobs.proofs.ProgramLemmas.{sent_is}
use Rattle.cut_jobs.proofs.program.report.Goals as goal

pub returns : goal.returns
returns g c =
    sent_is c.args.text.now c.send_all.result (g.E.Wire.log c.args.errors.now) (g.E.Wire.log c.send_all.new.wire)
    c.send_all.ensures
