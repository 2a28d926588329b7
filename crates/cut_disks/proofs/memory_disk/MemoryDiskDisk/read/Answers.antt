use Rattle.cut_disks.proofs.Images.{reads_are_images}
use Rattle.cut_disks.proofs.memory_disk.MemoryDiskDisk.read.Goals as goal

pub returns-clause-image : goal.returns-clause-image
returns-clause-image c = reads_are_images c.args.self.now
