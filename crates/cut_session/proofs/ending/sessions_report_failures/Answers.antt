use Rattle.cut_session.proofs.Failing.{failed_at}
use Rattle.cut_session.proofs.ending.sessions_report_failures.Goals as goal

pub returns : goal.returns
returns c = failed_at
