use Rattle.std.proofs.Common.{arith}
use Rattle.cut_disks.specs.State.{synced}
use Rattle.cut_disks.specs.Log.{on}
use Rattle.cut_journal.proofs.Appends.{opened_sound}
use Rattle.cut_journal.proofs.journal.Journal.reopen.Goals as goal

pub invariant_of-journal : goal.invariant_of-journal
invariant_of-journal g c =
    grind (
      arith,
      opened_sound c.in-Ok.study c.in-Ok-find_study.found.gate.number c.in-Ok-find_study.found.slips.items
          (synced (on (g.D.Disk.log c.args.disk))),
    )
