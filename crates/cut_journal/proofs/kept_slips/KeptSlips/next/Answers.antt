use Rattle.std.proofs.Common.{refl, arith}
use Rattle.std.proofs.lemmas.List.{take_rest}
use Rattle.cut_journal.proofs.Gates.{gate_far}
use Rattle.cut_journal.proofs.Unread.{next_at, reads_fault, reads_none, reads_on}
use Rattle.cut_journal.proofs.kept_slips.KeptSlips.next.Goals as goal

pub overflow_add-self-inside : goal.overflow_add-self-inside
overflow_add-self-inside c = omega (arith, gate_far c.self.inside.study c.self.inside.gate.number, c.self.invariant.place)

pub overflow_add-self : goal.overflow_add-self
overflow_add-self c = omega (arith, gate_far c.self.inside.study c.self.inside.gate.number, c.self.invariant.place)

pub returns-in-Ok-None : goal.returns-in-Ok-None
returns-in-Ok-None c = rw (← c.self.view_is) (
  reads_none c.self.inside c.self.invariant (rw (c.in-Ok-None.field-0-is, take_rest) at c.in-Ok-None.ensures),
  refl,
)

pub returns-in-Err : goal.returns-in-Err
returns-in-Err c = rw (← c.self.view_is)
    (reads_fault c.self.inside c.in-Err.fault c.self.invariant (rw take_rest at c.in-Err.ensures), refl)

pub invariant_of-self : goal.invariant_of-self
invariant_of-self c = next_at c.self.inside c.in-Ok-Some.slip c.slip_length.result c.slip_length.ensures.value
    c.self.invariant (rw (c.in-Ok-Some.field-0-is, take_rest) at c.in-Ok-Some.ensures)

pub returns : goal.returns
returns c = rw (← c.self.view_is)
    (reads_on c.self.inside c.in-Ok-Some.slip c.slip_length.result c.slip_length.ensures.value c.self.invariant
    (rw (c.in-Ok-Some.field-0-is, take_rest) at c.in-Ok-Some.ensures))
