use Rattle.std.proofs.Common.{◌≡◌, ◌<◌, ◌-◌, length}
use Rattle.cut_disks.specs.Log.{Goes, Shows}
use Rattle.cut_journal.specs.inside.Steps.{AreWhole}
use Rattle.cut_journal.proofs.slips.read_slips.Given as goal
use Rattle.cut_journal.specs.inside.Places.{first_slips, gate_place}

-- the slips so far are whole, and the disk is as before
abbrev pub invariant-loop-slips : goal.invariant-loop-slips
invariant-loop-slips g l = record {
  number : l.gate.number ≡ length l.slips.items;
  place : l.gate.place ≡ gate_place l.file.study.now l.gate.number;
  within : l.gate.place < l.file.size;
  reads : Goes (λ n. n) (Shows (λ bytes. AreWhole l.file.study.now bytes l.gate.number
      × (l.slips.items ≡ first_slips l.file.study.now bytes l.gate.number)))
      (g.D.Disk.log l.fn.disk) (g.D.Disk.log l.disk);
}

abbrev pub decreases-loop-slips : goal.decreases-loop-slips
decreases-loop-slips g l = l.file.size - l.gate.place
