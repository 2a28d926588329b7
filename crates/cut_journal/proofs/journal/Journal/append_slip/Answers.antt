use Rattle.std.proofs.Common.{rules, ◌≡◌, Option, Some, None, false, is_some, refl, arith}
use Rattle.cut_ledger.specs.declared.slip.Slip.{Slip}
use Rattle.cut_journal.specs.declared.fault.JournalFault.TheVariants.{Broken}
use Rattle.cut_journal.proofs.Appends.{append_stays, slip_doubted, slip_kept}
use Rattle.cut_journal.proofs.Gates.{gate_next, gate_far}
use Rattle.cut_journal.proofs.journal.Journal.append_slip.Goals as goal

none_of : (o : Option Slip) → is_some o ≡ false → o ≡ None
none_of None is = refl
none_of (Some slip) is = absurd (cc)

pub returns-then-is_some-clause-appends : goal.returns-then-is_some-clause-appends
returns-then-is_some-clause-appends g c = rw (← c.self.view_is)
    (append_stays g.D.Disk.log Broken c.args.slip _ (λ n. refl) c.self.invariant.2)

pub overflow_add-self : goal.overflow_add-self
overflow_add-self g c = grind (arith, gate_far)

pub invariant_of-self : goal.invariant_of-self
invariant_of-self g c = (
  omega (
    arith,
    c.self.invariant.0,
    gate_next c.self.inside.study c.self.inside.gate.number,
    c.slip_length.ensures.value,
  ),
  omega (arith, c.in-Ok.ensures.bound, c.slip_length.ensures.value),
  (slip_kept g.D.Disk.log 0 c.args.slip _ _ _ _ _ (none_of c.self.inside.doubtful (search rules)) c.self.invariant.2
      c.in-Ok.ensures.keeps).1,
)

pub invariant_of-self-in-Err : goal.invariant_of-self-in-Err
invariant_of-self-in-Err g c = (
  c.self.invariant.0,
  c.self.invariant.1,
  (slip_doubted g.D.Disk.log _ c.args.slip _ _ _ _ _ (none_of c.self.inside.doubtful (search rules))
      c.self.invariant.2 c.in-Err.ensures.keeps).1,
)

pub returns-in-Ok-clause-appends : goal.returns-in-Ok-clause-appends
returns-in-Ok-clause-appends g c = rw (← c.self.view_is)
    (slip_kept g.D.Disk.log _ c.args.slip _ _ _ _ _ (none_of c.self.inside.doubtful (search rules))
    c.self.invariant.2 c.in-Ok.ensures.keeps).0

pub returns-in-Err-clause-appends : goal.returns-in-Err-clause-appends
returns-in-Err-clause-appends g c = rw (← c.self.view_is)
    (slip_doubted g.D.Disk.log _ c.args.slip _ _ _ _ _ (none_of c.self.inside.doubtful (search rules))
    c.self.invariant.2 c.in-Err.ensures.keeps).0
