use Rattle.cut_laws.proofs.EqualWatermarks.{implicit_changes_no_sums, implicit_changes_no_trial}
use Rattle.cut_laws.proofs.equal_watermarks.implicit_alerts_change_nothing.Goals as goal

pub returns-clause-trials : goal.returns-clause-trials
returns-clause-trials c = implicit_changes_no_trial c.equal_watermarks.ensures.implicit

pub returns-clause-sums : goal.returns-clause-sums
returns-clause-sums c = implicit_changes_no_sums c.equal_watermarks.ensures.implicit
