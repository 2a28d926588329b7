use Rattle.cut_laws.proofs.ByReports.{too_few_others, too_few_targets}
use Rattle.cut_laws.proofs.reports.too_few_alerts_are_overlooked.Goals as goal

pub returns-clause-targets : goal.returns-clause-targets
returns-clause-targets c = too_few_targets c.only_who_ends_stable_is_proposed.ensures.missed

pub returns-clause-others : goal.returns-clause-others
returns-clause-others c = too_few_others c.only_who_ends_stable_is_proposed.ensures.others
