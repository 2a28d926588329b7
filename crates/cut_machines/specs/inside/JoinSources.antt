-- What only the crate's own clauses and proofs cite, beside specs/JoinSources.antt.
use Rattle.std.specs.Prelude.{◌≡◌, ◌⊎◌, ◌++◌, ℕ, List, Result, Ok, Err, Option, Some, None, ⊤}
use Rattle.cut_plan.specs.Values.{Values}
use Rattle.cut_files.specs.Place.{Place, IsOpen}
use Rattle.cut_ledger.specs.declared.slip.Slip.{Slip}
use Rattle.cut_ledger.specs.declared.slips_fault.SlipsFault.{SlipsFault}
use Rattle.cut_ledger.specs.declared.slips_fault.SlipsFault.TheVariants as slips
use Rattle.cut_ledger.specs.Slips.{IsFirstBad}
use Rattle.cut_journal.specs.declared.fault.JournalFault.{JournalFault}
use Rattle.cut_journal.specs.declared.fault.JournalFault.TheVariants as journal
use Rattle.cut_commands.specs.declared.fault.CliFault.{CliFault}
use Rattle.cut_commands.specs.declared.fault.CliFault.TheVariants.{Memory, Journal, BadSlip}
use Rattle.cut_machines.specs.JoinSources.{HaveRunOut, Holds, IsFirstRefused, IsRefused, IsRefusedAt}
use Rattle.cut_machines.specs.JoinSources.{failed_once, read_times}

-- ---- several files

module _ (found left : List ℕ → Place) where
  -- why the slips of several files were not read
  abbrev pub IsUnread : List (List ℕ) → Values → CliFault → Type 0
  IsUnread paths v Memory = HaveRunOut found left paths
  IsUnread paths v (Journal fault) = IsFirstRefused found left paths v fault
  IsUnread paths v fault = ⊥

  -- which of several files is refused, if one is
  abbrev pub NamesFile : List (List ℕ) → Values → CliFault → Option ℕ → Type 0
  NamesFile paths v (Journal fault) refused =
      (number : ℕ) × ((refused ≡ Some number) × IsRefusedAt found left paths v fault number)
  NamesFile paths v fault refused = refused ≡ None

  -- what is open stays so
  abbrev pub StaysOpen : Type 0
  StaysOpen = (path : List ℕ) → IsOpen (found path) → left path ≡ found path

-- ---- one file

-- why the slips of one file were not read
abbrev pub IsUnopened : Place → Values → CliFault → Type 0
IsUnopened file v Memory = ⊤
IsUnopened file v (Journal fault) = IsRefused file v fault
IsUnopened file v fault = ⊥

-- a file's slips were added to others
abbrev pub AddsHeld : Place → Values → List Slip → List Slip → Type 0
AddsHeld file v old new = (added : List Slip) × (Holds file v added × (new ≡ old ++ added))

-- what one turn leaves at the path of its file, by how it ends: the file was read; or memory ran out before that, or
-- after; or it is refused
abbrev pub LeavesRefused : JournalFault → Place → Place → Type 0
LeavesRefused journal.Disk old new = (new ≡ failed_once old) ⊎ (new ≡ failed_once (read_times 1 old))
LeavesRefused fault old new = new ≡ read_times 1 old

abbrev pub LeavesFile : {T : Type 0} → Result T CliFault → Place → Place → Type 0
LeavesFile (Ok done) old new = new ≡ read_times 1 old
LeavesFile (Err Memory) old new = (new ≡ old) ⊎ (new ≡ read_times 1 old)
LeavesFile (Err (Journal fault)) old new = LeavesRefused fault old new
LeavesFile (Err fault) old new = ⊥

-- why slips are not joined that were read: memory ran out, or one of them is bad
abbrev pub HaveBadSlip : Values → List Slip → CliFault → Type 0
HaveBadSlip v slips Memory = ⊤
HaveBadSlip v slips (BadSlip number) = IsFirstBad v slips number
HaveBadSlip v slips fault = ⊥

-- if a file at a place is not read it is refused, unless memory ran out
abbrev pub refused_at : ℕ → CliFault → Option ℕ
refused_at number (Journal fault) = Some number
refused_at number fault = None

-- the fault of the program where slips were not accepted
abbrev pub fault_of_slips : SlipsFault → CliFault
fault_of_slips slips.Memory = Memory
fault_of_slips (slips.BadSlip number) = BadSlip number
