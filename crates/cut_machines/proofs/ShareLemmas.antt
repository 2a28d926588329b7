-- What the command `share` keeps and writes, by what its parts say.
use Rattle.std.proofs.Common.{◌≡◌, ◌∙◌, ◌++◌, ℕ, Bool, List, [], Option, Some, None, Result, Ok, Err, length}
use Rattle.std.proofs.Common.{refl, sym, ap, subst, arith, inl, inr}
use Rattle.std.specs.Bool.{⊤}
use Rattle.std.specs.Prelude.{IfErr, IsSome}
use Rattle.std.proofs.lemmas.List.{take_all}
use Rattle.cut_plan.specs.Values.{Values}
use Rattle.cut_disks.specs.Log.{DiskLog, Goes, IsKnown, is_known, on}
use Rattle.cut_ledger.specs.declared.slip.Slip.{Slip}
use Rattle.cut_journal.specs.Journal.{JournalValue, IsFileOf, ReadsAs, kept_slips}
use Rattle.cut_journal.specs.Opening.{IsOpened}
use Rattle.cut_journal.specs.declared.store_fault.StoreFault.{StoreFault}
use Rattle.cut_journal.specs.declared.store_fault.StoreFault.TheVariants as store
use Rattle.cut_journal.specs.Adding.{Adds, doubtful_after, failures_after}
use Rattle.cut_shares.specs.declared.share.share.Share.{Share}
use Rattle.cut_shares.specs.share.Running.{AreOfShare, EndsShare}
use Rattle.cut_wires.specs.Log.{WireLog}
use Rattle.cut_files.specs.Place.{Place}
use Rattle.cut_commands.specs.Run.{GivesPlanFrom, IsReadAs, IsWritten, LeavesStudy, LeavesUnread}
use Rattle.cut_commands.specs.declared.fault.CliFault.{CliFault}
use Rattle.cut_commands.specs.declared.fault.CliFault.TheVariants.{Memory, Plan, Read, Write, Journal, BadSlip}
use Rattle.cut_commands.specs.declared.fault.CliFault.TheVariants.{Checkpoint, WorkMemory}
use Rattle.cut_commands.proofs.RunLemmas.{leaves_answer, leaves_nothing}
use Rattle.cut_commands.proofs.Sources.{ends_read}
use Rattle.cut_machines.specs.Share.{AddsTo, EndsKeeping, Opens, SayUpTo, SharesFrom, disk_faults_after, fault_of_share}
use Rattle.cut_machines.specs.Share.{share_line, share_task}
use Rattle.cut_machines.specs.inside.Share.{KeepsShare}
use Rattle.cut_machines.proofs.Unread.{ends_without}

-- what the bytes of a journal say, by whether there is a doubtful slip
say_up_to : (v : Values) (slips : List Slip) (doubtful : Option Slip) (bytes : List ℕ)
    → ReadsAs v slips doubtful bytes → SayUpTo v slips doubtful bytes
say_up_to v slips None bytes is = grind arith
say_up_to v slips (Some slip) bytes is = grind arith

-- a run of a share that adds no slip is one of the share
none_of_share : (s : Share) (v : Values) (slips added : List Slip) → added ≡ [] → AreOfShare s v slips added
none_of_share s v slips added none = grind arith

-- the doubtful slip after appends to a journal that had none
doubtful_of : (failed before : Option Slip) → before ≡ None → doubtful_after failed before ≡ failed
doubtful_of None before none = none
doubtful_of (Some slip) before none = refl

-- a journal was opened over the slips that were found on a disk, and a share was run over it
module _ {D : Type 0} (log_of : D → DiskLog) (v : Values) (slips : List Slip) (disk : D) (log new : JournalValue D)
    (plan : log.plan ≡ v) (count : log.count ≡ length slips) (whole : log.doubtful ≡ None)
    (found : Goes (λ n. n) (IsOpened v slips) (log_of disk) (log_of log.disk))
    (sound : IsKnown (log_of new.disk) → IsFileOf new.plan new.count new.doubtful (on (log_of new.disk))) where
  kept_first : IsKnown (log_of disk) → kept_slips log.plan log.count (on (log_of log.disk)) ≡ slips
  kept_first known = let read = (found.state known).read in grind (arith, read, take_all)

  adds_to : (added : List Slip) (failed some : Option Slip) → failed ≡ some → Adds log_of added failed log new
      → AddsTo v slips added some (log_of disk) (log_of new.disk)
  adds_to added failed some is adds known =
      let first = kept_first known in
      let doubt : new.doubtful ≡ some = adds.doubtful ∙ doubtful_of failed log.doubtful whole ∙ is in
      let at_log : IsKnown (log_of log.disk) = found.known ∙ known in
      let same : new.plan ≡ v = adds.plan ∙ plan in
      let kept : kept_slips new.plan new.count (on (log_of new.disk)) ≡ slips ++ added =
      (adds.disk.state at_log).kept ∙ ap (λ (ss : List Slip). ss ++ added) first in
      record {
        found = (found.state known).found;
        opened = on (log_of log.disk);
        opening = (found.state known).moments;
        moments = rw (sym plan, sym first, sym doubt) (adds.disk.state at_log).moments;
        bytes = say_up_to v (slips ++ added) some (on (log_of new.disk)).bytes
            (rw (sym same, sym kept, sym doubt) (sound (adds.disk.known ∙ at_log)).bytes);
      }

  -- what is kept where these slips were added, and how many calls of the disk failed
  keeps : (result : Result ℕ CliFault) (s : Share) (added : List Slip) (failed some : Option Slip) → failed ≡ some
      → Adds log_of added failed log new → ((n : ℕ) → failures_after some n ≡ disk_faults_after result n)
      → (AddsTo v slips added some (log_of disk) (log_of new.disk)
      → EndsKeeping result s v (log_of disk) (log_of new.disk))
      → KeepsShare result s v (log_of disk) (log_of new.disk)
  keeps result s added failed some is adds same ends = record {
    ends = ends (adds_to added failed some is adds);
    known = adds.disk.known ∙ found.known;
    faults = adds.disk.faults ∙ ap (λ (o : Option Slip). failures_after o (log_of log.disk).failed) is
        ∙ ap (failures_after some) found.faults ∙ same (log_of disk).failed;
  }

  -- the run ended well
  pub keeps_all : (n : ℕ) (s : Share) → EndsShare log_of (Ok n) s v slips log new
      → KeepsShare (Ok n) s v (log_of disk) (log_of new.disk)
  keeps_all n s (added, failed, ends) = keeps (Ok n) s added failed None ends.1.4 ends.0 (λ m. refl) (λ adds. (
    ends.1.0,
    record { slips = slips; added = added; adds = adds; good = ends.1.1.good; own = ends.1.2; whole = ends.1.3 },
  ))

  -- or with a fault
  pub keeps_fault : (fault : StoreFault) (s : Share) → EndsShare log_of (Err fault) s v slips log new
      → KeepsShare (Err (fault_of_share fault)) s v (log_of disk) (log_of new.disk)
  keeps_fault store.OtherPlan s (added, failed, ends) = absurd (ends.1.0 plan)
  keeps_fault store.Broken s (added, failed, ends) =
      absurd (let some = subst (λ (o : Option Slip). IsSome o) whole ends.1.2 in cc some)
  keeps_fault (store.BadSlip number) s (added, failed, ends) =
      keeps (Err (BadSlip number)) s added failed None ends.1.2.1 ends.0 (λ m. refl)
      (λ adds. (slips, (rw (sym ends.1.2.0) adds, ends.1.1)))
  keeps_fault store.Memory s (added, failed, ends) =
      keeps (Err WorkMemory) s added failed None ends.1.1.1 ends.0 (λ m. refl)
      (λ adds. (slips, added, (adds, none_of_share s v slips added ends.1.1.0, inl ends.1.1.0)))
  keeps_fault store.WorkMemory s (added, failed, ends) =
      keeps (Err WorkMemory) s added failed None ends.1.3 ends.0 (λ m. refl)
      (λ adds. (slips, added, (adds, ends.1.1, inr (ends.1.0.good, ends.1.2))))
  keeps_fault store.Disk s (added, failed, ends) =
      keeps (Err Checkpoint) s added failed (Some ends.1.1.0) ends.1.1.1.1 ends.0 (λ m. refl)
      (λ adds. (slips, added, ends.1.1.0, (adds, ends.1.0.good, ends.1.1.1.0)))
  keeps_fault fault s (added, failed, ends) = absurd ends.1

-- ---- how it ends over a disk

-- its plan was not read
unread_read : (plan : Option Place) (fault : CliFault) (disk : DiskLog) (old new : WireLog) (text : List ℕ) (ended : Bool)
    → IsReadAs text ended (Err fault)
    → LeavesUnread Opens plan fault disk disk old new × (disk.failed ≡ disk_faults_after {T = ⊤} (Err fault) disk.failed)
unread_read plan Memory disk old new text ended is = (inl refl, refl)
unread_read plan Read disk old new text ended is = (refl, refl)
unread_read plan (Plan refusal) disk old new text ended is = (refl, refl)
unread_read plan fault disk old new text ended is = absurd is

pub shares_unread : (plan : Option Place) (fault : CliFault) (s : Share) (disk : DiskLog) (old new : WireLog)
    → GivesPlanFrom plan (Err fault) old new → SharesFrom plan (Err fault) s disk disk old new
shares_unread plan fault s disk old new given =
    elim (ends_without (share_task (Err fault) s disk disk) plan fault old new given) [
      | inl none ↦
          (let left = unread_read plan fault disk old new none.text none.ended none.is in
          inl (record { command = none.ends; unread = left.0; known = refl; faults = left.1 }))
      | inr unread ↦ inr (refl, unread)
    ]

module _ (plan : Option Place) (s : Share) (v : Values) (disk back : DiskLog) (old mid : WireLog)
    (given : GivesPlanFrom plan (Ok v) old mid) (known : is_known back ≡ is_known disk) where
  -- the share was not run to its end: nothing is written
  stopped : (fault : CliFault) → EndsKeeping (Err fault) s v disk back
      → LeavesStudy (share_task (Err fault) s disk back) v (Err fault) mid mid
      × LeavesUnread Opens plan fault disk back old mid
  stopped Memory kept = (leaves_nothing _ v Memory mid refl refl, inr (v, (given, kept)))
  stopped (Journal fault) kept = (leaves_nothing _ v (Journal fault) mid refl (kept, refl), tt)
  stopped (BadSlip number) kept = (leaves_nothing _ v (BadSlip number) mid refl (kept, refl), tt)
  stopped WorkMemory kept = (leaves_nothing _ v WorkMemory mid refl (kept, inl refl), tt)
  stopped Checkpoint kept = (
    leaves_nothing _ v Checkpoint mid refl
        (kept, record { whole = []; answer = (refl, kept); count = 0; prefix = refl }),
    tt,
  )
  stopped fault kept = absurd kept

  same_faults : (fault : CliFault) (n : ℕ) → disk_faults_after {T = ℕ} (Err fault) n ≡ disk_faults_after {T = ⊤} (Err fault) n
  same_faults fault n = grind arith

  pub shares_none : (fault : CliFault) → EndsKeeping (Err fault) s v disk back
      → back.failed ≡ disk_faults_after {T = ℕ} (Err fault) disk.failed → SharesFrom plan (Err fault) s disk back old mid
  shares_none fault kept faults =
      let left = stopped fault kept in
      inl (record {
        command = ends_read (share_task (Err fault) s disk back) plan v (Err fault) old mid mid given left.0;
        unread = left.1;
        known = known;
        faults = faults ∙ same_faults fault disk.failed;
      })

  -- it was: the answer is written, or some of its first bytes
  written : (result : Result ⊤ CliFault) (n : ℕ) (whole : List ℕ) (new : WireLog) → EndsKeeping (Ok n) s v disk back
      → whole ≡ share_line s n → IsWritten whole result mid new
      → LeavesStudy (share_task result s disk back) v result mid new
      × IfErr result (λ fault. LeavesUnread Opens plan fault disk back old new)
      × (disk.failed ≡ disk_faults_after result disk.failed)
  written (Ok done) n whole new kept line is =
      (leaves_answer _ v whole (Ok done) mid new (line ∙ ap (share_line s) kept.0, kept.1) is, tt, refl)
  written (Err (Write fault)) n whole new kept line is =
      (leaves_answer _ v whole (Err (Write fault)) mid new (line ∙ ap (share_line s) kept.0, kept.1) is, tt, refl)
  written (Err fault) n whole new kept line is = absurd is

  pub shares_line : (result : Result ⊤ CliFault) (n : ℕ) (whole : List ℕ) (new : WireLog) → EndsKeeping (Ok n) s v disk back
      → back.failed ≡ disk.failed → whole ≡ share_line s n → IsWritten whole result mid new
      → SharesFrom plan result s disk back old new
  shares_line result n whole new kept faults line is =
      let left = written result n whole new kept line is in
      inl (record {
        command = ends_read (share_task result s disk back) plan v result old mid new given left.0;
        unread = left.1;
        known = known;
        faults = faults ∙ left.2;
      })
