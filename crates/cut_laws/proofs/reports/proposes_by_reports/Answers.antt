use Rattle.cut_laws.proofs.ByReports.{by_reports}
use Rattle.cut_laws.proofs.reports.proposes_by_reports.Goals as goal

pub returns : goal.returns
returns c = by_reports c.proposes_at_least_place.ensures c.unstable_are_reported_and_not_stable.ensures
