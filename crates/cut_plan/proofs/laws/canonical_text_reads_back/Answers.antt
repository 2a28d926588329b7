use Rattle.cut_plan.proofs.RoundTrip.{reads_back}
use Rattle.cut_plan.proofs.laws.canonical_text_reads_back.Goals as goal

pub returns : goal.returns
returns c = reads_back
