use denote.Param.Send.{IsSend, sendable}
use Rattle.std.proofs.Crossing.{crosses}
use Rattle.cut_disks.specs.contracts.memory_disk.MemoryDisk as memory
use Rattle.cut_hall.proofs.Crossing.{hall_sync}
use Rattle.cut_server_tests.proofs.worker.served_in.Goals as goal

memory_send : IsSend memory.the_row
memory_send = search (sendable, crosses) depth 100

pub take_part_all-requires-sync-W : goal.take_part_all-requires-sync-W
take_part_all-requires-sync-W g c κs within = search (sendable, hall_sync, memory_send) depth 40
