-- A journal as contracts see it, what is true of it between calls, and what an append leaves.
use Rattle.std.specs.Prelude.{◌≡◌, ◌⊎◌, ◌++◌, ◌+◌, ℕ, List, [], ◌∷◌, length, take, Option, Some, None, Result, Ok, Err}
use Rattle.std.specs.Prelude.{⊤, OnOk, unwrap_or}
use Rattle.std.specs.Io.{StartsWith}
use Rattle.cut_faults.specs.Failures.{one_more}
use Rattle.cut_plan.specs.Values.{Values}
use Rattle.cut_disks.specs.State.{DiskState, IsImage, Throughout, settled}
use Rattle.cut_disks.specs.Log.{DiskLog, Goes}
use Rattle.cut_ledger.specs.declared.slip.Slip.{Slip}
use Rattle.cut_journal.specs.declared.fault.JournalFault.{JournalFault}
use Rattle.cut_journal.specs.declared.fault.JournalFault.TheVariants.{Broken, OtherPlan, Disk}
use Rattle.cut_journal.specs.File.{file_of}
use Rattle.cut_journal.specs.Reading.{reading}

-- the disk, the plan of the study, how many slips are kept, and the slip of an append in which the disk failed,
-- which may be kept too
pub record JournalValue (D : Type 0) : Type 0 where
  pub disk : D
  pub plan : Values
  pub count : ℕ
  pub doubtful : Option Slip

-- the slips that bytes say, none where they say no study of the plan
abbrev pub slips_of : Result (List Slip) JournalFault → List Slip
slips_of (Ok slips) = slips
slips_of (Err fault) = []

-- the kept slips: as many of the first ones as are counted, of those that the bytes of the disk say
abbrev pub kept_slips : Values → ℕ → DiskState → List Slip
kept_slips v count d = take count (slips_of (reading v d.bytes))

-- bytes say these slips, or these and the doubtful one
abbrev pub ReadsAs : Values → List Slip → Option Slip → List ℕ → Type 0
ReadsAs v slips doubtful bytes =
    (reading v bytes ≡ Ok slips)
    ⊎ ((slip : Slip) × ((doubtful ≡ Some slip) × (reading v bytes ≡ Ok (slips ++ slip ∷ []))))

-- what is true of a disk between the calls of its journal: as many slips are kept as the journal counts; what reads
-- give, and whatever a crash may leave, says these, or these and the doubtful one; and if there is no doubtful one, all
-- that was written is durable
pub record IsFileOf (v : Values) (count : ℕ) (doubtful : Option Slip) (d : DiskState) : Type 0 where
  pub counted : length (kept_slips v count d) ≡ count
  pub bytes : ReadsAs v (kept_slips v count d) doubtful d.bytes
  pub images : (image : List ℕ) → IsImage d.stable image → ReadsAs v (kept_slips v count d) doubtful image
  pub durable : doubtful ≡ None → d.stable ≡ settled d.bytes

-- ---- an append

-- the faults that an append may answer
abbrev pub IsAppendFault : JournalFault → Type 0
IsAppendFault Broken = ⊤
IsAppendFault OtherPlan = ⊤
IsAppendFault Disk = ⊤
IsAppendFault fault = ⊥

-- and those of an append of a slip, which no plan comes with
abbrev pub IsSlipAppendFault : JournalFault → Type 0
IsSlipAppendFault Broken = ⊤
IsSlipAppendFault Disk = ⊤
IsSlipAppendFault fault = ⊥

-- what a journal is after an append: one more slip is kept; or the disk failed, and the slip is doubtful; or it
-- is as before
abbrev pub LeavesAppend : {D : Type 0} → Result ℕ JournalFault → Slip → JournalValue D → JournalValue D → Type 0
LeavesAppend (Ok number) slip old new = (new.plan ≡ old.plan) × (new.count ≡ old.count + 1) × (new.doubtful ≡ None)
LeavesAppend (Err Disk) slip old new = (new.plan ≡ old.plan) × (new.count ≡ old.count) × (new.doubtful ≡ Some slip)
LeavesAppend (Err fault) slip old new = new ≡ old

-- the slips that are kept after an append
abbrev pub slips_after : Result ℕ JournalFault → Slip → List Slip → List Slip
slips_after (Ok number) slip slips = slips ++ slip ∷ []
slips_after (Err fault) slip slips = slips

-- bytes that begin with the file of as many slips as are kept begin with the file of these and one more after it
abbrev pub ExtendsFile : Values → ℕ → Slip → List ℕ → List ℕ → Type 0
ExtendsFile v count slip old new =
    (slips : List Slip) → length slips ≡ count → StartsWith old (file_of v slips)
    → StartsWith new (file_of v (slips ++ slip ∷ []))

-- an append of a slip, of a disk of which it is known what is on it: each crash at each moment of it leaves the slips
-- that were kept, or these and this one; if it is acknowledged, it is one of those that each later crash leaves, and
-- the file goes on by its bytes
pub record AppendsTo {D : Type 0} (result : Result ℕ JournalFault) (slip : Slip) (old new : JournalValue D)
    (before now : DiskState) : Type 0 where
  pub moments : Throughout before now
      (ReadsAs old.plan (kept_slips old.plan old.count before) (Some (unwrap_or old.doubtful slip)))
  pub kept : kept_slips new.plan new.count now ≡ slips_after result slip (kept_slips old.plan old.count before)
  pub file : OnOk result (ExtendsFile old.plan old.count slip before.bytes now.bytes)
  pub acknowledged : OnOk result ((image : List ℕ) → IsImage now.stable image
      → reading old.plan image ≡ Ok (kept_slips new.plan new.count now))

-- ---- one append after another

-- slips are appended one after another to those that are kept: while one is appended, each crash at each moment leaves
-- those before it, or those and it; once it is acknowledged, it is one of those that each later crash leaves. After the
-- last of them the doubtful one, if there is one, may be there too
abbrev pub AppendsEach : Values → List Slip → Option Slip → List Slip → DiskState → DiskState → Type 0
AppendsEach v kept doubtful [] old new = Throughout old new (ReadsAs v kept doubtful)
AppendsEach v kept doubtful (slip ∷ slips) old new =
    (mid : DiskState) × (Throughout old mid (ReadsAs v kept (Some slip))
    × AppendsEach v (kept ++ slip ∷ []) doubtful slips mid new)

-- ---- faults of the disk

-- how many calls of the disk failed, after a fault of a journal: one more exactly if it is that fault
abbrev pub fault_counts : JournalFault → ℕ → ℕ
fault_counts Disk n = one_more n
fault_counts fault n = n

-- the same after a call of a journal
abbrev pub disk_faults : {T : Type 0} → Result T JournalFault → ℕ → ℕ
disk_faults (Ok done) n = n
disk_faults (Err fault) n = fault_counts fault n

-- an append of a slip, of whichever disk
abbrev pub Appends : {D : Type 0} → (D → DiskLog) → Result ℕ JournalFault → Slip → JournalValue D → JournalValue D
    → Type 0
Appends log result slip old new =
    Goes (disk_faults result) (AppendsTo result slip old new) (log old.disk) (log new.disk)
