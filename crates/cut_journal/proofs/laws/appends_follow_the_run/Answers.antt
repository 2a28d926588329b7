use Rattle.cut_journal.proofs.Crashes.{follows}
use Rattle.cut_journal.proofs.laws.appends_follow_the_run.Goals as goal

pub returns : goal.returns
returns g c = follows
