use Rattle.cut_laws.proofs.Silenced.{none_raised, raised_where_silent, raised_where_speaking}
use Rattle.cut_laws.proofs.crashes.crashed_observers_raise_no_alerts.Goals as goal

pub returns-clause-silent : goal.returns-clause-silent
returns-clause-silent c = λ v t s only. raised_where_silent v t only s

pub returns-clause-speak : goal.returns-clause-speak
returns-clause-speak c = λ v t s only. raised_where_speaking v t only s

pub returns-clause-others : goal.returns-clause-others
returns-clause-others c = λ v t s only. none_raised v t only s
