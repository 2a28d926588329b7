-- Which types of a hall may cross threads.
use denote.RattleType.{RattleType}
use denote.Param.Send.{IsSend, IsSync, sendable, view_sync, recorded_sync, struct_sync}
use denote.Struct.Declared.{shape}
use denote.Struct.Struct.{Struct}
use Rattle.std.proofs.sync.OnceLock.TheSendSync as once_crosses
use Rattle.std.proofs.Crossing.{crosses}
use Rattle.std.specs.declared.sync.ledger.Ledger as tokens
use Rattle.cut_disks.specs.declared.disk.Disk as disk
use Rattle.cut_plan.specs.contracts.plan.Plan as plan
use Rattle.cut_rings.specs.contracts.rings.Rings as rings
use Rattle.cut_board.proofs.board.Board.TheSendSync as board_crosses
use Rattle.cut_slots.proofs.Crossing.{plan_send, slot_send, accounts_send}
use Rattle.cut_slots.specs.declared.call_ledger.CallLedger as tally
use Rattle.cut_hall.specs.contracts.work.StudyInput as input
use Rattle.cut_hall.specs.contracts.work.SharedInput as shared
use Rattle.cut_hall.specs.contracts.hall.LockedSlot as place
use Rattle.cut_hall.specs.contracts.hall.Hall as hall
use Rattle.cut_hall.specs.contracts.hall.Hall.TheInside as inside

pub plan_sync : IsSync plan.the_row
plan_sync = search (sendable, crosses) depth 100

pub rings_send : IsSend rings.the_row
rings_send = search (sendable, crosses) depth 100

pub rings_sync : IsSync rings.the_row
rings_sync = search (sendable, crosses) depth 100

pub input_send : IsSend input.the_row
input_send = search (sendable, crosses, plan_send, rings_send) depth 100

pub input_sync : IsSync input.the_row
input_sync = search (sendable, crosses, plan_sync, rings_sync) depth 100

pub shared_sync : IsSync (shared.the_field).row
shared_sync = search (sendable, crosses, once_crosses.the_sync, input_send, input_sync) depth 100

module _ (D M K : RattleType) (gD : disk.Ghosts D.Denot) (tM : tally.Ghosts M.Denot) (tK : tally.Ghosts K.Denot)
    (lM : tokens.Ghosts M.Denot) (lK : tokens.Ghosts K.Denot) (send : IsSend D) where
  pub place_sync : IsSync (place.the_row D K gD tK lK)
  place_sync =
      let T = place.the_type D K gD tK lK in
      recorded_sync (Struct (shape T)) T.D T.to T.to_one (struct_sync (shape T) (
        search (sendable, crosses, slot_send D M K gD tM tK lM lK send) depth 100,
        (search (sendable, crosses) depth 100, (shared_sync, tt)),
      ))

  fields_sync : IsSync (inside.the_row D M K gD tM tK lM lK)
  fields_sync =
      let T = inside.the_type D M K gD tM tK lM lK in
      recorded_sync (Struct (shape T)) T.D T.to T.to_one (struct_sync (shape T) (
        board_crosses.the_field_sync,
        (
          search (crosses, place_sync),
          (search (crosses, accounts_send D M K gD tM tK lM lK send), (search sendable, (search sendable, tt))),
        ),
      ))

  pub hall_sync : IsSync (hall.the_row D M K gD tM tK lM lK)
  hall_sync = view_sync _ _ _ _ _ fields_sync
