use Rattle.std.proofs.Common.{[], arith}
use Rattle.cut_disks.specs.Log.{on}
use Rattle.cut_journal.proofs.Appends.{opened_sound}
use Rattle.cut_journal.proofs.journal.Journal.create.Goals as goal

pub invariant_of-result : goal.invariant_of-result
invariant_of-result g c =
    grind (
      arith,
      opened_sound c.in-Ok.study c.first_gate-gate.result.number [] (on (g.D.Disk.log c.make_study.new.disk)),
    )
