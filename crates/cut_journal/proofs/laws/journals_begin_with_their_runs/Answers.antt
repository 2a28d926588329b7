use Rattle.cut_journal.proofs.Crashes.{opening_follows, others_follow}
use Rattle.cut_journal.proofs.laws.journals_begin_with_their_runs.Goals as goal

pub returns : goal.returns
returns c = record { opening = opening_follows; others = others_follow }
