use Rattle.cut_messages.proofs.Streams.{agree}
use Rattle.cut_messages.proofs.laws.readings_agree.Goals as goal

pub returns : goal.returns
returns c = agree
