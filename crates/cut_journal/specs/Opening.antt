-- What the making and the reopening of a journal leave of a disk.
use Rattle.std.specs.Prelude.{◌≡◌, ◌≢◌, ◌⊎◌, ◌==◌, ◌&&◌, ◌||◌, ℕ, Bool, true, not, List, [], Ok, Err, ⊤}
use Rattle.std.specs.Prelude.{length, nat_le, slice_index}
use Rattle.std.specs.Io.{StartsWith}
use Rattle.cut_plan.specs.Values.{Values}
use Rattle.cut_disks.specs.State.{DiskState, synced, Throughout}
use Rattle.cut_ledger.specs.declared.slip.Slip.{Slip}
use Rattle.cut_journal.specs.declared.fault.JournalFault.{JournalFault}
use Rattle.cut_journal.specs.declared.fault.JournalFault.TheVariants.{Memory, Disk, NoStudy, OtherPlan, Damaged, Held}
use Rattle.cut_journal.specs.File.{closed_gate, file_of}
use Rattle.cut_journal.specs.Reading.{is_study, reading}

-- ---- reopening

-- what bytes say of a reopening that was refused: the fault is the one that they are read with; that memory ran out
-- and a failing disk say nothing of them, and no other fault comes
abbrev pub IsReopenFault : Values → List ℕ → JournalFault → Type 0
IsReopenFault v bytes Memory = ⊤
IsReopenFault v bytes Disk = ⊤
IsReopenFault v bytes NoStudy = reading v bytes ≡ Err NoStudy
IsReopenFault v bytes OtherPlan = reading v bytes ≡ Err OtherPlan
IsReopenFault v bytes (Damaged number) = reading v bytes ≡ Err (Damaged number)
IsReopenFault v bytes fault = ⊥

-- the faults that a reopening may answer, of whichever disk
abbrev pub IsOpeningFaultOf : JournalFault → Type 0
IsOpeningFaultOf Memory = ⊤
IsOpeningFaultOf Disk = ⊤
IsOpeningFaultOf NoStudy = ⊤
IsOpeningFaultOf OtherPlan = ⊤
IsOpeningFaultOf (Damaged number) = ⊤
IsOpeningFaultOf fault = ⊥

-- what is on the disk: as before, but for a first sync that made all durable; nothing else if it was read to its end
abbrev pub IsRead : JournalFault → DiskState → DiskState → Type 0
IsRead Memory old new = (new ≡ old) ⊎ (new ≡ synced old)
IsRead Disk old new = (new ≡ old) ⊎ (new ≡ synced old)
IsRead fault old new = new ≡ synced old

-- what bytes say of a reopening that succeeded, and what it leaves: these slips are read, and all is durable
abbrev pub IsReopened : Values → List Slip → DiskState → DiskState → Type 0
IsReopened v slips old new = (reading v old.bytes ≡ Ok slips) × (new ≡ synced old)

-- and of one that was refused
abbrev pub IsRefused : Values → JournalFault → DiskState → DiskState → Type 0
IsRefused v fault old new = IsReopenFault v old.bytes fault × IsRead fault old new

-- ---- making

-- the faults that the making of a journal may answer
abbrev pub MayNotMake : JournalFault → Type 0
MayNotMake Memory = ⊤
MayNotMake Disk = ⊤
MayNotMake Held = ⊤
MayNotMake fault = ⊥

-- bytes say no study, or one of the plan without slips
abbrev pub IsNewStudy : Values → List ℕ → Type 0
IsNewStudy v bytes = (reading v bytes ≡ Err NoStudy) ⊎ (reading v bytes ≡ Ok [])

-- what is on the disk at the end: as before; or, from the first sync on, each crash at each moment leaves no
-- study, or one without slips
abbrev pub IsBegunFile : Values → DiskState → DiskState → Type 0
IsBegunFile v old new = (new ≡ old) ⊎ Throughout (synced old) new (IsNewStudy v)

-- a journal was made where there was no study: the disk holds one without slips, by a file that begins as such a file does
pub record IsMade (v : Values) (old new : DiskState) : Type 0 where
  pub none : reading v old.bytes ≡ Err NoStudy
  pub made : reading v new.bytes ≡ Ok []
  pub file : StartsWith new.bytes (file_of v [])
  pub begun : IsBegunFile v old new

-- what is on the disk if no journal was made: Held comes exactly where there is a study already, and then nothing was
-- written; if memory runs out that is before anything is done
abbrev pub IsNotMade : Values → JournalFault → DiskState → DiskState → Type 0
IsNotMade v Held old new = (reading v old.bytes ≢ Err NoStudy) × (new ≡ synced old)
IsNotMade v Memory old new = new ≡ old
IsNotMade v Disk old new = (reading v old.bytes ≡ Err NoStudy → IsBegunFile v old new)
    × (reading v old.bytes ≢ Err NoStudy → (new ≡ old) ⊎ (new ≡ synced old))
IsNotMade v fault old new = ⊥

-- ---- claiming a file

-- whether a file is unclaimed: it has no byte, or a first byte that is a closed gate as one is written. That is what an
-- interrupted creation leaves
abbrev pub is_unclaimed : List ℕ → Bool
is_unclaimed bytes = nat_le (length bytes) 0 || (slice_index bytes 0 == closed_gate)

-- whether a file is somebody else's: it holds no study, and is not unclaimed
abbrev pub is_foreign : List ℕ → Bool
is_foreign bytes = not (is_study bytes) && not (is_unclaimed bytes)

-- the faults by which a file may not be claimed
abbrev pub MayNotClaim : JournalFault → Type 0
MayNotClaim Memory = ⊤
MayNotClaim Disk = ⊤
MayNotClaim Held = ⊤
MayNotClaim NoStudy = ⊤
MayNotClaim fault = ⊥

-- a journal was made of an unclaimed file
abbrev pub IsClaimed : Values → DiskState → DiskState → Type 0
IsClaimed v old new = (is_unclaimed old.bytes ≡ true) × IsMade v old new

-- what is on the disk if a file was not claimed: Held comes exactly where there is a study, NoStudy exactly if the file
-- is somebody else's. Then nothing was written, and nothing is written if the disk fails, but to an unclaimed file
abbrev pub IsNotClaimed : Values → JournalFault → DiskState → DiskState → Type 0
IsNotClaimed v Held old new = (is_study old.bytes ≡ true) × (new ≡ synced old)
IsNotClaimed v NoStudy old new = (is_foreign old.bytes ≡ true) × (new ≡ old)
IsNotClaimed v Memory old new = new ≡ old
IsNotClaimed v Disk old new = (is_unclaimed old.bytes ≡ true → IsBegunFile v old new)
    × (is_study old.bytes ≡ true → (new ≡ old) ⊎ (new ≡ synced old)) × (is_foreign old.bytes ≡ true → new ≡ old)
IsNotClaimed v fault old new = ⊥

-- ---- opening, whether there is a study or not

-- the slips that are found: those that bytes say, or none if the file is unclaimed
abbrev pub IsFoundOn : Values → List ℕ → List Slip → Type 0
IsFoundOn v bytes slips = (reading v bytes ≡ Ok slips) ⊎ ((is_unclaimed bytes ≡ true) × (slips ≡ []))

-- what bytes say if none is opened; that memory ran out or a disk failed says nothing of them, and no other fault comes
abbrev pub IsOpenFault : Values → List ℕ → JournalFault → Type 0
IsOpenFault v bytes Memory = ⊤
IsOpenFault v bytes Disk = ⊤
IsOpenFault v bytes NoStudy = is_foreign bytes ≡ true
IsOpenFault v bytes OtherPlan = reading v bytes ≡ Err OtherPlan
IsOpenFault v bytes (Damaged number) = reading v bytes ≡ Err (Damaged number)
IsOpenFault v bytes fault = ⊥

-- the faults of an opening, of whichever disk
abbrev pub MayNotOpen : JournalFault → Type 0
MayNotOpen Memory = ⊤
MayNotOpen Disk = ⊤
MayNotOpen OtherPlan = ⊤
MayNotOpen (Damaged number) = ⊤
MayNotOpen Held = ⊤
MayNotOpen NoStudy = ⊤
MayNotOpen fault = ⊥

-- what is on the disk at the end: as before, but for a first sync that made all durable; or, if the file was unclaimed,
-- from the second sync on each crash at each moment leaves no study, or one without slips
abbrev pub IsOpening : Values → DiskState → DiskState → Type 0
IsOpening v old new =
    (new ≡ old) ⊎ ((new ≡ synced old)
    ⊎ ((is_unclaimed old.bytes ≡ true) × Throughout (synced (synced old)) new (IsNewStudy v)))

-- an opening that succeeded: these slips were found, and are read afterwards
pub record IsOpened (v : Values) (slips : List Slip) (old new : DiskState) : Type 0 where
  pub found : IsFoundOn v old.bytes slips
  pub read : reading v new.bytes ≡ Ok slips
  pub moments : IsOpening v old new

-- and one that was refused
abbrev pub IsNotOpened : Values → JournalFault → DiskState → DiskState → Type 0
IsNotOpened v fault old new = IsOpenFault v old.bytes fault × IsOpening v old new
