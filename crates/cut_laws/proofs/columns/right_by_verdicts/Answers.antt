use Rattle.cut_laws.proofs.Numbers as lemmas
use Rattle.cut_laws.proofs.columns.right_by_verdicts.Goals as goal

pub returns-clause-verdicts : goal.returns-clause-verdicts
returns-clause-verdicts c = lemmas.right_by_verdicts c.receivers_are_the_rest.ensures

pub returns-clause-without_extra : goal.returns-clause-without_extra
returns-clause-without_extra c = lemmas.right_without_extra c.receivers_are_the_rest.ensures
