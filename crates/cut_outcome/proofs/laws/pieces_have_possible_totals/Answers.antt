use Rattle.std.proofs.Common.{arith}
use Rattle.cut_outcome.proofs.Sum.{trials_possible, first_possible}
use Rattle.cut_outcome.proofs.laws.pieces_have_possible_totals.Goals as goal

pub returns-clause-trials : goal.returns-clause-trials
returns-clause-trials c = trials_possible

pub returns-clause-pieces : goal.returns-clause-pieces
returns-clause-pieces c = λ v p piece. first_possible v p p.count piece (omega arith)
