use Rattle.cut_journal.proofs.Crashes.{between_calls, in_appends}
use Rattle.cut_journal.proofs.laws.crashes_are_resumptions.Goals as goal

pub returns : goal.returns
returns c = record { between = between_calls; within = in_appends }
