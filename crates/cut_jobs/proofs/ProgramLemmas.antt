-- How the program reports its end, by its parts.
use Rattle.std.proofs.Common.{ℕ, List, Result, Ok, Err, refl, inl, inr}
use Rattle.std.specs.Prelude.{◌≢◌}
use Rattle.std.specs.Bool.{⊤}
use Rattle.std.specs.declared.io.ErrorKind as io
use Rattle.std.specs.declared.io.ErrorKind.TheVariants.{InvalidData}
use Rattle.cut_wires.specs.Log.{WireLog, SendsAll}
use Rattle.cut_wires.specs.declared.send.Sent.{Sent}
use Rattle.cut_commands.specs.declared.fault.CliFault.TheVariants.{Memory}
use Rattle.cut_jobs.specs.Program.{ReportsEnd, ReportsUnread}
use Rattle.cut_jobs.specs.Sending.{IsSent}

-- a text was sent, or a part of it up to a write that failed
pub sent_is : (text : List ℕ) (result : Result ⊤ Sent) (old new : WireLog) → SendsAll result text old new
    → IsSent text old new
sent_is text (Ok done) old new is = inl is
sent_is text (Err fault) old new is = inr (fault.sent, (is.1, is.0))

-- words that can't be read for another reason than that one of them is not UTF-8
pub unread_otherwise : (kind : io.ErrorKind) → kind ≢ InvalidData → (old new : WireLog) (status : ℕ)
    → ReportsEnd (Err Memory) old new status → ReportsUnread kind old new status
unread_otherwise InvalidData other old new status is = absurd (other refl)
unread_otherwise kind other old new status is = is
