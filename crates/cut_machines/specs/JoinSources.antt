-- What the files that are joined hold of a plan, and what is left of them.
use Rattle.std.specs.Prelude.{◌≡◌, ◌≢◌, ◌⊎◌, ◌+◌, ◌++◌, ℕ, zero, suc, List, [], ◌∷◌, Ok, length, count_by, option_map, ⊤}
use Rattle.std.specs.Str.{bytes_eq}
use Rattle.cut_faults.specs.Failures.{one_more}
use Rattle.cut_plan.specs.Values.{Values}
use Rattle.cut_disks.specs.Log.{Knows}
use Rattle.cut_disks.specs.State.{DiskState, synced}
use Rattle.cut_files.specs.Place.{Place}
use Rattle.cut_files.specs.Place as place
use Rattle.cut_ledger.specs.declared.slip.Slip.{Slip}
use Rattle.cut_ledger.specs.Slips.{IsFirstBad}
use Rattle.cut_journal.specs.declared.fault.JournalFault.{JournalFault}
use Rattle.cut_journal.specs.declared.fault.JournalFault.TheVariants as journal
use Rattle.cut_journal.specs.Opening.{IsReopenFault}
use Rattle.cut_journal.specs.Reading.{reading}
use Rattle.cut_commands.specs.Faults.{IsRefusalOfOld}
use Rattle.cut_commands.specs.declared.fault.CliFault.{CliFault}
use Rattle.cut_commands.specs.declared.fault.CliFault.TheVariants.{Memory, Journal, BadSlip}

-- ---- what files say

-- the slips that a file says for the plan: those that its bytes are read as, if these are known. What does not open
-- says none
abbrev pub Holds : Place → Values → List Slip → Type 0
Holds place.Unknown v slips = ⊤
Holds (place.Holds log) v slips = Knows log (λ d. reading v d.bytes ≡ Ok slips)
Holds other v slips = ⊥

-- why a file said none: its bytes hold no study of the plan, or are damaged, or a call of its disk failed. What does not
-- open is a fault of the disk
abbrev pub SaysNone : Place → Values → JournalFault → Type 0
SaysNone place.Unknown v fault = ⊤
SaysNone (place.Holds log) v fault = Knows log (λ d. IsReopenFault v d.bytes fault)
SaysNone other v fault = fault ≡ journal.Disk

pub record IsRefused (file : Place) (v : Values) (fault : JournalFault) : Type 0 where
  pub may : IsRefusalOfOld fault
  pub says : SaysNone file v fault

-- ---- what is left of them

-- what is on a disk that was read so many times: each begins with a sync, and nothing is written
abbrev pub synced_times : ℕ → DiskState → DiskState
synced_times zero d = d
synced_times (suc n) d = synced (synced_times n d)

-- what stands at a path whose file was read so many times, and no call of its disk failed: the same file, with the same
-- bytes. What does not open stays as it was
abbrev pub read_times : ℕ → Place → Place
read_times n (place.Holds log) =
    place.Holds (record { state = option_map (synced_times n) log.state; failed = log.failed })
read_times n other = other

-- and if a call of the disk failed: the file counts one more
abbrev pub failed_once : Place → Place
failed_once (place.Holds log) = place.Holds (record { state = log.state; failed = one_more log.failed })
failed_once other = other

-- how often a path is named
abbrev pub times_named : List ℕ → List (List ℕ) → ℕ
times_named path paths = count_by (λ other. bytes_eq path other) paths

-- which files were read where one is refused: those before it, and that one too; but a call of its disk may have failed
-- before that
abbrev pub IsReadUpTo : JournalFault → List (List ℕ) → List ℕ → List (List ℕ) → Type 0
IsReadUpTo journal.Disk before path read = (read ≡ before) ⊎ (read ≡ before ++ path ∷ [])
IsReadUpTo fault before path read = read ≡ before ++ path ∷ []

-- what then stands at the path of the one that is refused
abbrev pub after_refusal : JournalFault → Place → Place
after_refusal journal.Disk file = failed_once file
after_refusal fault file = file

-- ---- several files

-- the slips that several files say, in the order of the files, by what stands at each path
abbrev pub HoldAll : (List ℕ → Place) → List (List ℕ) → Values → List Slip → Type 0
HoldAll found [] v slips = slips ≡ []
HoldAll found (path ∷ paths) v slips = (first : List Slip) × ((rest : List Slip)
    × (Holds (found path) v first × HoldAll found paths v rest × (slips ≡ first ++ rest)))

-- what stood at each path before any file was read, and what stands there afterwards
module _ (found left : List ℕ → Place) where
  -- these files were read, each as often as it is named, and nothing else was done
  abbrev pub AreRead : List (List ℕ) → Type 0
  AreRead paths = (path : List ℕ) → left path ≡ read_times (times_named path paths) (found path)

  -- the first of several files that said none: those before it did, and those after it were not opened
  pub record IsFirstRefused (paths : List (List ℕ)) (v : Values) (fault : JournalFault) : Type 0 where
    pub before : List (List ℕ)
    pub path : List ℕ
    pub after : List (List ℕ)
    pub all : paths ≡ before ++ path ∷ after
    pub slips : List Slip
    pub held : HoldAll found before v slips
    pub refused : IsRefused (found path) v fault
    pub read : List (List ℕ)
    pub up_to : IsReadUpTo fault before path read
    pub here : left path ≡ after_refusal fault (read_times (times_named path read) (found path))
    pub elsewhere : (other : List ℕ) → other ≢ path → left other ≡ read_times (times_named other read) (found other)

  -- and which one that is, by its place, from 1
  abbrev pub IsRefusedAt : List (List ℕ) → Values → JournalFault → ℕ → Type 0
  IsRefusedAt paths v fault number =
      (first : IsFirstRefused paths v fault) × (number ≡ length first.before + 1)

  -- the first slip, of those of all files, with which no ledger of the plan begins after those before it
  pub record HoldBadSlip (paths : List (List ℕ)) (v : Values) (number : ℕ) : Type 0 where
    pub slips : List Slip
    pub held : HoldAll found paths v slips
    pub bad : IsFirstBad v slips number
    pub read : AreRead paths

  -- memory ran out, when some first files had been read
  pub record HaveRunOut (paths : List (List ℕ)) : Type 0 where
    pub before : List (List ℕ)
    pub after : List (List ℕ)
    pub all : paths ≡ before ++ after
    pub read : AreRead before

  -- why the slips of several files are not joined: memory ran out, a file said none, or a slip is bad
  abbrev pub StopsReading : List (List ℕ) → Values → CliFault → Type 0
  StopsReading paths v Memory = HaveRunOut paths
  StopsReading paths v (Journal fault) = IsFirstRefused paths v fault
  StopsReading paths v (BadSlip number) = HoldBadSlip paths v number
  StopsReading paths v fault = ⊥
