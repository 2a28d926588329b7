-- How a hall is closed.
use Rattle.std.specs.Prelude.{◌≡◌, ◌<◌, ◌≤◌, List, [], ◌∷◌, length, Bool, Option, Result, IfOk, IfSome}
use Rattle.cut_disks.specs.Log.{DiskLog}
use Rattle.cut_journal.specs.Journal.{JournalValue}
use Rattle.cut_slots.specs.declared.not_closed.NotClosed.{NotClosed}
use Rattle.cut_slots.specs.declared.not_closed.NotClosed.TheVariants.{Memory, AuditMismatch, SeatMissing}
use Rattle.cut_hall.specs.Hall.{HallValue}
use Rattle.cut_slots.specs.Pass.{Holding}
use Rattle.cut_slots.specs.Report.{SlotEnd, AcceptedOther, calls_in_all, made_in_all, counted_in_all}
use Rattle.cut_slots.specs.Start.{StudyStart, AreOpenedWith, IsLeftOf}

-- why a hall was not closed, to which these passes were brought: some are missing, and what was brought comes back;
-- or of the study of one of its slots the passes counted another number than its history accepted, by the report of
-- all slots, whose calls are as many as the passes made, and whose studies were opened with what the hall was made
-- with; or memory ran out
abbrev pub IsNotClosed : {T : Type 0} → (T → Type 0) → HallValue → List Holding → NotClosed T → Type 0
IsNotClosed comes_back hall passes Memory = hall.passes ≤ length passes
IsNotClosed comes_back hall passes (AuditMismatch m) =
    (hall.passes ≤ length passes) × (length m.report ≡ hall.slots) × (m.study < hall.slots)
    × (m.counted ≡ counted_in_all m.study passes) × AcceptedOther m.report m.study m.counted
    × (calls_in_all m.report ≡ made_in_all passes) × AreOpenedWith hall.opening m.report
IsNotClosed comes_back hall passes (SeatMissing brought) = (length passes < hall.passes) × comes_back brought

-- how the only study of a hall ended that began so: what is left of it, by the report of its slot, which is the one that is
-- reported where the hall was closed
abbrev pub IsStudyEnd : {D E : Type 0} → (D → DiskLog) → Option StudyStart → Result (List SlotEnd) E → Bool
    → Option (JournalValue D) → Type 0
IsStudyEnd log_of start report is_broken left =
    IfSome start (λ s. (slot : SlotEnd) × (IsLeftOf log_of s slot is_broken left × IfOk report (λ slots. slots ≡ slot ∷ [])))
