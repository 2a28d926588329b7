-- What is left of a disk that was not claimed.
use Rattle.std.proofs.Common.{◌≡◌, ℕ, true, false, List, Err, arith}
use Rattle.std.proofs.lemmas.Bool.{false_from_ne_true}
use Rattle.std.proofs.lemmas.Bool.Decides.{nat_tests}
use Rattle.cut_plan.specs.Values.{Values}
use Rattle.cut_disks.specs.State.{DiskState, synced}
use Rattle.cut_disks.specs.Log.{DiskLog, Goes, on}
use Rattle.cut_journal.specs.declared.fault.JournalFault.{JournalFault}
use Rattle.cut_journal.specs.declared.fault.JournalFault.TheVariants.{NoStudy}
use Rattle.cut_journal.specs.Reading.{is_study, reading}
use Rattle.cut_journal.specs.Opening.{IsNotClaimed, IsNotMade, is_foreign, is_unclaimed, IsNotOpened, IsRefused}
use Rattle.cut_journal.specs.Journal.{fault_counts}
use Rattle.cut_journal.proofs.Makings.{closed_none, short_none}
use Rattle.cut_journal.proofs.Readings.{none_read, some_read}

-- an unclaimed file holds no study
pub unclaimed_none : (bytes : List ℕ) → is_unclaimed bytes ≡ true → is_study bytes ≡ false
unclaimed_none bytes is = grind (arith, nat_tests, closed_none, short_none)

-- where a file is not somebody else's and holds no study, it is unclaimed
pub left_unclaimed : (v : Values) (bytes : List ℕ) → is_foreign bytes ≡ false → reading v bytes ≡ Err NoStudy
    → is_unclaimed bytes ≡ true
left_unclaimed v bytes known none =
    grind (arith, some_read)

pub not_claimed : (v : Values) (fault : JournalFault) (old new : DiskState) → is_foreign old.bytes ≡ false
    → IsNotMade v fault old new → IsNotClaimed v fault old new
not_claimed v fault old new known made =
    grind (arith, none_read v old.bytes, some_read v old.bytes, unclaimed_none old.bytes)

-- ---- an opening, where there is no study

no_study : (v : Values) (bytes : List ℕ) → reading v bytes ≡ Err NoStudy → is_study bytes ≡ false
no_study v bytes none = false_from_ne_true (is_study bytes) (λ is. some_read v bytes is none)

refused_so : (v : Values) (fault : JournalFault) (old new : DiskState) → reading v old.bytes ≡ Err NoStudy
    → IsNotClaimed v fault (synced old) new → IsNotOpened v fault old new
refused_so v fault old new none made =
    grind (arith, some_read v old.bytes, no_study v old.bytes none)

-- an opening that was refused, by its two steps
pub not_opened : (v : Values) (first fault : JournalFault) (old mid new : DiskLog) → first ≡ NoStudy
    → Goes (fault_counts first) (IsRefused v first) old mid → Goes (fault_counts fault) (IsNotClaimed v fault) mid new
    → Goes (fault_counts fault) (IsNotOpened v fault) old new
not_opened v first fault old mid new is before last =
    grind (arith, refused_so v fault (on old) (on new))
