use Rattle.cut_laws.proofs.OtherWatermarks.{longer_twice}
use Rattle.cut_laws.proofs.other_watermarks.longer_waits_add_up.Goals as goal

pub returns : goal.returns
returns c = longer_twice
