use denote.Param.Send.{sendable}
use Rattle.cut_hall.proofs.Crossing.{hall_sync}
use Rattle.cut_server.proofs.serve.Server.serve_by.Goals as goal

pub run_threads-listener-requires-sync-H : goal.run_threads-listener-requires-sync-H
run_threads-listener-requires-sync-H g c κs within = search (sendable, hall_sync, c.type_bounds.send-D) depth 40
