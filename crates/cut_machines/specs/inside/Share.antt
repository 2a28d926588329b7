-- What only the crate's own clauses and proofs cite, beside specs/Share.antt.
use Rattle.std.specs.Prelude.{◌≡◌, ℕ, Result}
use Rattle.cut_plan.specs.Values.{Values}
use Rattle.cut_disks.specs.Log.{DiskLog, is_known}
use Rattle.cut_shares.specs.declared.share.share.Share.{Share}
use Rattle.cut_commands.specs.declared.fault.CliFault.{CliFault}
use Rattle.cut_machines.specs.Share.{EndsKeeping, disk_faults_after}

-- how a share is kept on a disk, and how many calls of the disk failed
pub record KeepsShare (result : Result ℕ CliFault) (s : Share) (v : Values) (disk back : DiskLog) : Type 0 where
  pub ends : EndsKeeping result s v disk back
  pub known : is_known back ≡ is_known disk
  pub faults : back.failed ≡ disk_faults_after result disk.failed
