use Rattle.cut_machines.proofs.ResumedShares.{first_slips, resumed_slips, resumed_whole}
use Rattle.cut_machines.proofs.laws.shares_can_be_resumed.Goals as goal

pub returns-clause-first : goal.returns-clause-first
returns-clause-first c = first_slips

pub returns-clause-resumed : goal.returns-clause-resumed
returns-clause-resumed c = resumed_slips

pub returns-clause-whole : goal.returns-clause-whole
returns-clause-whole c = resumed_whole
