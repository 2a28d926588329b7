use Rattle.cut_alerts.proofs.Deafness.{turns_one}
use Rattle.cut_alerts.proofs.laws.one_more_deaf_turns_one.Goals as goal

pub returns : goal.returns
returns c = λ v deaf f d r. turns_one v f d r deaf
