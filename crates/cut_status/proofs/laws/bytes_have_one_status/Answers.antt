use Rattle.cut_status.proofs.OneStatus.{one_status, fault_alone}
use Rattle.cut_status.proofs.laws.bytes_have_one_status.Goals as goal

pub returns-clause-status : goal.returns-clause-status
returns-clause-status c = one_status c.canonical_text_reads_back.ensures

pub returns-clause-fault : goal.returns-clause-fault
returns-clause-fault c = fault_alone c.canonical_text_reads_back.ensures
