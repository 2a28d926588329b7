use Rattle.cut_disks.proofs.Images.{reads_are_images}
use Rattle.cut_disks.proofs.laws.reads_are_images.Goals as goal

pub returns : goal.returns
returns c = reads_are_images
