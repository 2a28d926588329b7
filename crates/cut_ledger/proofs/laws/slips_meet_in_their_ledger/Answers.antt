use Rattle.cut_ledger.proofs.SlipLemmas.{meet_in_ledger}
use Rattle.cut_ledger.proofs.laws.slips_meet_in_their_ledger.Goals as goal

pub returns : goal.returns
returns c = meet_in_ledger
