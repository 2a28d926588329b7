use Rattle.std.proofs.Common.{arith, sym}
use Rattle.cut_journal.proofs.Heads.{head_fine, head_unreadable}
use Rattle.cut_journal.proofs.Unread.{begins_at, begins_unread}
use Rattle.cut_journal.proofs.kept_slips.KeptSlips.of.Goals as goal

pub invariant_of-result : goal.invariant_of-result
invariant_of-result c = begins_at _
    (head_fine _ _ _ (sym c.in-Ok-check_head.ensures))
    c.first_gate-gate.ensures.number c.first_gate-gate.ensures.place

pub returns-in-Ok-check_head-clause-read : goal.returns-in-Ok-check_head-clause-read
returns-in-Ok-check_head-clause-read c = rw (← c.in-Ok.ensures) (begins_unread
    (record { bytes = c.args.bytes; study = c.in-Ok.study; gate = c.first_gate-gate.result })
    (head_fine _ _ _ (sym c.in-Ok-check_head.ensures))
    c.first_gate-gate.ensures.number c.first_gate-gate.ensures.place)

pub returns-clause-err : goal.returns-clause-err
returns-clause-err c = grind (arith, head_unreadable)
