use denote.Param.Send.{IsSend, sendable}
use Rattle.std.proofs.Crossing.{crosses}
use Rattle.cut_disks.specs.contracts.faulty_disk.FaultyDisk as faulty
use Rattle.cut_hall.proofs.Crossing.{hall_sync}
use Rattle.cut_pool_tests.proofs.hall.storms.play_in.Goals as goal

faulty_send : IsSend faulty.the_row
faulty_send = search (sendable, crosses) depth 100

pub play_timed-requires-sync-A : goal.play_timed-requires-sync-A
play_timed-requires-sync-A g c κs within = search (sendable, hall_sync, faulty_send) depth 40
