use Rattle.cut_messages.proofs.Frames.{fault_more, no_message}
use Rattle.cut_messages.proofs.laws.faults_stay.Goals as goal

pub returns : goal.returns
returns c = λ side bytes more fault wrong. (fault_more side bytes more fault wrong, no_message side bytes fault wrong)
