use Rattle.cut_rings.proofs.Observers.{observer_is_process}
use Rattle.cut_rings.proofs.laws.observers_are_processes.Goals as goal

pub returns : goal.returns
returns c = observer_is_process
