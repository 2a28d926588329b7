use Rattle.cut_disks.proofs.Images.{reads_are_images}
use Rattle.cut_disks.proofs.faulty_disk.FaultyDiskDisk.read.Goals as goal

pub returns-then-is_due-clause-image : goal.returns-then-is_due-clause-image
returns-then-is_due-clause-image c = reads_are_images c.args.self.now.memory
