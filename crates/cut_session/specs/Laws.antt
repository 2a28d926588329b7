-- Laws of sessions, however they end.
use Rattle.std.specs.Prelude.{◌≡◌, ◌⊎◌}
use Rattle.cut_board.specs.declared.view.View.{View}
use Rattle.cut_wires.specs.Log.{Failed, WireLog, with_read, with_write}
use Rattle.cut_hall.specs.Hall.{HallValue}
use Rattle.cut_session.specs.declared.session_end.SessionEnd.{SessionEnd}
use Rattle.cut_session.specs.declared.session_end.SessionEnd.TheVariants.{Fault, Write}
use Rattle.cut_session.specs.declared.session_end.SessionFault.TheVariants as session
use Rattle.cut_session.specs.Answering.{Rises}
use Rattle.cut_session.specs.Session.{EndsSession}

-- of no study less has been seen at the end than at the begin
abbrev pub SessionsSeeNoLess : Type 0
SessionsSeeNoLess = (hall : HallValue) (low high : View) (end : SessionEnd) (old new : WireLog)
    → EndsSession hall low high end old new → Rises low high

-- which calls failed: a write exactly where one is reported, and a read exactly if that is reported, or if the write
-- failed that should have sent it
abbrev pub HasFailedCalls : SessionEnd → Failed → Failed → Type 0
HasFailedCalls (Write fault) old new = (new ≡ with_write old) ⊎ (new ≡ with_write (with_read old))
HasFailedCalls (Fault session.Read) old new = new ≡ with_read old
HasFailedCalls end old new = new ≡ old

abbrev pub SessionsReportFailures : Type 0
SessionsReportFailures = (hall : HallValue) (low high : View) (end : SessionEnd) (old new : WireLog)
    → EndsSession hall low high end old new → HasFailedCalls end old.failed new.failed
