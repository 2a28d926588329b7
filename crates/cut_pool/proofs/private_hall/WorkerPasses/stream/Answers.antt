use denote.Param.Send.{sendable}
use Rattle.cut_hall.proofs.Crossing.{hall_sync}
use Rattle.cut_pool.proofs.private_hall.WorkerPasses.stream.Goals as goal

pub work_beside-requires-sync-S : goal.work_beside-requires-sync-S
work_beside-requires-sync-S g c κs within = search (sendable, hall_sync, c.type_bounds.send-D) depth 40
