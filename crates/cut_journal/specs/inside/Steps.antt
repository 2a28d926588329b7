-- What the private steps of a journal do to a disk, if it is known what is on it.
use Rattle.std.specs.Prelude.{◌≡◌, ◌⊎◌, ◌∷◌, ◌++◌, ◌+◌, ◌^◌, ◌<◌, ◌==◌, ℕ, true, false, List, length, take, Option, Some}
use Rattle.std.specs.Prelude.{None, Result, Ok, Err, ⊤, Bool, [], not, if◌then◌else◌, slice_index, IfOk, OnOk}
use Rattle.std.specs.Io.{StartsWith}
use Rattle.cut_plan.specs.Failing.{version_of}
use Rattle.cut_plan.specs.declared.limits.TheConstants.{LONGEST_TEXT}
use Rattle.cut_plan.specs.Values.{Values}
use Rattle.cut_disks.specs.State.{DiskState, IsImage, IsTorn, Throughout, written, begun, synced, settled}
use Rattle.cut_ledger.specs.declared.slip.Slip.{Slip}
use Rattle.cut_journal.specs.declared.fault.JournalFault.{JournalFault}
use Rattle.cut_journal.specs.declared.fault.JournalFault.TheVariants.{Memory, Disk, NoStudy, OtherPlan, Damaged}
use Rattle.cut_journal.specs.declared.first_look.Shown.{Shown}
use Rattle.cut_journal.specs.declared.slips.Slips.{Slips}
use Rattle.cut_journal.specs.File.{open_gate, file_of}
use Rattle.cut_journal.specs.Journal.{ReadsAs, ExtendsFile, kept_slips}
use Rattle.cut_journal.specs.Opening.{IsNewStudy, IsReopened, IsRefused, IsMade, IsNotMade}
use Rattle.cut_journal.specs.inside.File.{rest_of}
use Rattle.cut_journal.specs.Reading.{is_study, has_header, says_plan, has_magic, slip_in, body_in, slips_reading}
use Rattle.cut_journal.specs.Reading.{reading}
use Rattle.cut_journal.specs.inside.Places.{body_at, has_slip, is_open, is_whole, opens}

-- a write and a sync: all is durable; or the write did nothing, or was begun
abbrev pub WritesThrough : {E : Type 0} → Result ⊤ E → ℕ → List ℕ → DiskState → DiskState → Type 0
WritesThrough (Ok done) at put old new = new ≡ synced (written old at put)
WritesThrough (Err fault) at put old new =
    (new ≡ old) ⊎ ((torn : List ℕ) × (IsTorn at (at + length put) old.bytes torn
    × (new ≡ begun old at (at + length put) torn)))

-- the first sync with its reads: all is durable, also if a read failed after it; they show the length, and whether
-- there is a study
abbrev pub Looks : {E : Type 0} → Result Shown E → DiskState → DiskState → Type 0
Looks (Ok shown) old new =
    (shown.length ≡ length old.bytes) × (shown.is_study ≡ is_study old.bytes) × (new ≡ synced old)
Looks (Err fault) old new = (new ≡ old) ⊎ (new ≡ synced old)

-- whether the gate at a place is open
abbrev pub IsGate : {E : Type 0} → Result Bool E → ℕ → List ℕ → Type 0
IsGate result place bytes = IfOk result (λ is_open. is_open ≡ (slice_index bytes place == open_gate))

-- bytes begin as the file of a study of this plan does, and have the gate of a first slip
pub record IsOfPlan (v : Values) (bytes : List ℕ) : Type 0 where
  pub study : is_study bytes ≡ true
  pub header : has_header bytes ≡ true
  pub text : says_plan v bytes ≡ true
  pub letters : has_magic v bytes ≡ true

-- the first bytes, as many as the longest head has, with the gate of a first slip
unfoldable pub head_in : List ℕ → List ℕ
head_in bytes = take (LONGEST_TEXT + 46) bytes

-- what the first bytes say of a study of this plan, in the order of a reading: that it is there, or why not
abbrev pub head_reading : Values → List ℕ → Result ⊤ JournalFault
head_reading v bytes =
    if not (is_study bytes) then Err NoStudy
    else (if not (has_header bytes) then Err (Damaged 0)
    else (if not (says_plan v bytes) then Err OtherPlan
    else (if not (has_magic v bytes) then Err (Damaged 0) else Ok tt)))

-- what the next slip is found to be: none after a closed gate, a whole one, or one that is damaged
abbrev pub IsNext : Result (Option Slip) JournalFault → Values → ℕ → List ℕ → Type 0
IsNext (Ok None) v i bytes = is_open v bytes i ≡ false
IsNext (Ok (Some slip)) v i bytes =
    (is_open v bytes i ≡ true) × (is_whole v bytes i ≡ true)
    × (slip ≡ slip_in (version_of v.failing) (body_at v bytes i))
IsNext (Err (Damaged number)) v i bytes =
    (number ≡ i + 1) × (is_open v bytes i ≡ true) × (is_whole v bytes i ≡ false)
IsNext (Err fault) v i bytes = ⊤

-- what the first slip of the bytes from a gate on is found to be: none after a closed gate, a whole one, or one that is
-- damaged; it has this number
abbrev pub IsStep : Result (Option Slip) JournalFault → Values → ℕ → List ℕ → Type 0
IsStep (Ok None) v number rest = opens rest ≡ false
IsStep (Ok (Some slip)) v number rest =
    (opens rest ≡ true) × (has_slip v rest ≡ true) × (slip ≡ slip_in (version_of v.failing) (body_in v rest))
IsStep (Err fault) v number rest = (opens rest ≡ true) × (has_slip v rest ≡ false) × (fault ≡ Damaged number)

-- the faults of a step that reads slips
abbrev pub IsSlipFault : JournalFault → Type 0
IsSlipFault Memory = ⊤
IsSlipFault Disk = ⊤
IsSlipFault (Damaged number) = 0 < number
IsSlipFault fault = ⊥

-- each slip before number n has an open gate and is whole
abbrev pub AreWhole : Values → List ℕ → ℕ → Type 0
AreWhole v bytes n = (i : ℕ) → i < n → (is_open v bytes i ≡ true) × (is_whole v bytes i ≡ true)

-- bytes, and whatever a crash may leave, have a property
abbrev pub Leave : (List ℕ → Type 0) → DiskState → Type 0
Leave P d = P d.bytes × ((image : List ℕ) → IsImage d.stable image → P image)

-- bytes go on, after their first one, as the file of a study without slips does
abbrev pub BeginsAs : Values → List ℕ → Type 0
BeginsAs v bytes = (first : ℕ) × ((rest : List ℕ) ×
    ((bytes ≡ first ∷ rest_of v ++ rest) × ((first == open_gate) ≡ false)))

-- the numbers of a slip have 64 bits, those of its piece 32
pub record HasNumbers (s : Slip) : Type 0 where
  pub first : s.piece.first < 2 ^ 32
  pub count : s.piece.count < 2 ^ 32
  pub receivers : s.totals.receivers < 2 ^ 64
  pub conflicts : s.totals.conflicts < 2 ^ 64
  pub silent : s.totals.silent < 2 ^ 64
  pub extra : s.totals.extra < 2 ^ 64
  pub votes : s.totals.votes < 2 ^ 64
  pub decided : s.totals.decided < 2 ^ 64
  pub right : s.totals.right < 2 ^ 64
  pub settled : s.totals.settled < 2 ^ 64

-- ---- what the steps leave

-- the slips of such a file, or which of them is damaged
abbrev pub AreRead : Result Slips JournalFault → Values → List ℕ → Type 0
AreRead (Ok found) v bytes = slips_reading v bytes ≡ Ok found.slips.items
AreRead (Err fault) v bytes = (number : ℕ) → fault ≡ Damaged number → slips_reading v bytes ≡ Err fault

-- the slips that a disk holds, or why there are none
abbrev pub Finds : Result Slips JournalFault → Values → DiskState → DiskState → Type 0
Finds (Ok found) v old new = IsReopened v found.slips.items old new
Finds (Err fault) v old new = IsRefused v fault old new

-- the disk holds no study, has this length, and all that is on it is durable
pub record IsFree (size : ℕ) (d : DiskState) : Type 0 where
  pub length : size ≡ length d.bytes
  pub none : is_study d.bytes ≡ false
  pub durable : d.stable ≡ settled d.bytes

-- its first gate is closed, and all is durable
pub record IsClosed (d : DiskState) : Type 0 where
  pub closed : (slice_index d.bytes 0 == open_gate) ≡ false
  pub some : 0 < length d.bytes
  pub durable : d.stable ≡ settled d.bytes

-- after that gate it goes on as the file of a study without slips does, and all is durable
pub record HasBegun (v : Values) (d : DiskState) : Type 0 where
  pub begins : BeginsAs v d.bytes
  pub durable : d.stable ≡ settled d.bytes

-- the gate of the study is closed; at each moment there is no study
pub record Closes {E : Type 0} (result : Result ⊤ E) (old new : DiskState) : Type 0 where
  pub moments : Throughout old new (λ bytes. is_study bytes ≡ false)
  pub closed : OnOk result (IsClosed new)

-- what follows that gate is written; at each moment there is no study
pub record WritesRest {E : Type 0} (result : Result ⊤ E) (v : Values) (old new : DiskState) : Type 0 where
  pub moments : Throughout old new (λ bytes. is_study bytes ≡ false)
  pub begun : OnOk result (HasBegun v new)

-- a study without slips is written: at each moment there is none, or one without slips
pub record WritesNew {E : Type 0} (result : Result ⊤ E) (v : Values) (old new : DiskState) : Type 0 where
  pub moments : Throughout old new (IsNewStudy v)
  pub durable : OnOk result (new.stable ≡ settled new.bytes)
  pub made : OnOk result (reading v new.bytes ≡ Ok [])
  pub file : OnOk result (StartsWith new.bytes (file_of v []))

-- a study is made if there is none, and all is durable; or why it isn't
abbrev pub Makes : Result ⊤ JournalFault → Values → DiskState → DiskState → Type 0
Makes (Ok done) v old new = IsMade v old new × (new.stable ≡ settled new.bytes)
Makes (Err fault) v old new = IsNotMade v fault old new

-- a slip is kept after those that are there, this many
pub record KeepsSlip {E : Type 0} (result : Result ⊤ E) (v : Values) (count : ℕ) (slip : Slip) (old new : DiskState)
    : Type 0 where
  pub moments : Throughout old new (ReadsAs v (kept_slips v count old) (Some slip))
  pub left : Leave (ReadsAs v (kept_slips v count old) (Some slip)) new
  pub kept : OnOk result (reading v new.bytes ≡ Ok (kept_slips v count old ++ slip ∷ []))
  pub file : OnOk result (ExtendsFile v count slip old.bytes new.bytes)
  pub durable : OnOk result (new.stable ≡ settled new.bytes)
