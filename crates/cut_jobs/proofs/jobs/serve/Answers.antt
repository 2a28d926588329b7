use Rattle.cut_server.proofs.ReportLemmas.{ends_faulty, ends_reported}
use Rattle.cut_jobs.proofs.jobs.serve.Goals as goal

pub returns-in-Ok : goal.returns-in-Ok
returns-in-Ok g c =
    ends_reported c.args.options.now.studies c.in-Ok._report (g.W.Wire.log c.args.wire.now) (g.W.Wire.log c.serve_at.new.wire)
    c.in-Ok.ensures.writes

pub returns-in-Err : goal.returns-in-Err
returns-in-Err g c =
    ends_faulty c.args.options.now.studies c.in-Err.fault (g.W.Wire.log c.args.wire.now) (g.W.Wire.log c.serve_at.new.wire)
    c.in-Err.ensures.writes
