use Rattle.std.proofs.Common.{arith}
use Rattle.cut_journal.proofs.Gates.{gate_next, gate_far}
use Rattle.cut_journal.proofs.slips.next_slip.Goals as goal

pub overflow_add-result : goal.overflow_add-result
overflow_add-result g c = grind (arith, gate_far)

pub overflow_add-result-in-None : goal.overflow_add-result-in-None
overflow_add-result-in-None g c = grind (arith, gate_far)

pub returns-then-size-gate-clause-reads : goal.returns-then-size-gate-clause-reads
returns-then-size-gate-clause-reads g c = grind (arith, gate_next)

pub returns-in-Some-clause-reads : goal.returns-in-Some-clause-reads
returns-in-Some-clause-reads g c = grind (arith, gate_next)

pub returns-in-None-clause-reads : goal.returns-in-None-clause-reads
returns-in-None-clause-reads g c = grind (arith, gate_next)
