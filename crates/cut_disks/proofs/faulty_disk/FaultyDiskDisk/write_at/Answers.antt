use Rattle.std.proofs.Common.{ℕ, subst}
use Rattle.std.specs.Prelude.{Err}
use Rattle.cut_disks.specs.Memory.{MemoryDiskValue, state_of}
use Rattle.cut_disks.specs.State.{WritesDisk}
use Rattle.cut_disks.proofs.Images.{fails_writes}
use Rattle.cut_disks.proofs.faulty_disk.FaultyDiskDisk.write_at.Goals as goal

pub returns-then-is_due-clause-written : goal.returns-then-is_due-clause-written
returns-then-is_due-clause-written c =
    let new : MemoryDiskValue = c.fail_write.new.self.memory in
    subst (λ (m : MemoryDiskValue). WritesDisk {E = ℕ} (Err 0) c.args.at c.args.put.now (state_of m) (state_of new))
    c.is_due.ensures.memory
    (fails_writes {E = ℕ} c.is_due.new.self.tear 0 c.args.at c.args.put.now c.is_due.new.self.memory new
    c.fail_write.ensures.memory)
