use Rattle.cut_disks.proofs.Images.{overwritten_torn}
use Rattle.cut_disks.proofs.laws.writes_stay_in_their_span.Goals as goal

pub returns : goal.returns
returns c = overwritten_torn
