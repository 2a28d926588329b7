use Rattle.cut_faults.proofs.Numbers.{found, one_number}
use Rattle.cut_faults.proofs.laws.numbers_differ.Goals as goal

pub returns-clause-names : goal.returns-clause-names
returns-clause-names c = found

pub returns-clause-differ : goal.returns-clause-differ
returns-clause-differ c = one_number
