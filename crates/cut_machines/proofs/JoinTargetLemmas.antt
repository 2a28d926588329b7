-- What is left of a disk on which joined slips are written one after another.
use Rattle.std.proofs.Common.{◌≡◌, ◌++◌, inl, inr, ℕ, List, Option, Some, None, Result, Ok, Err, length, sym, ap, subst}
use Rattle.std.specs.Prelude.{IfErr, IfOk, IsSome}
use Rattle.cut_faults.specs.Failures.{one_more}
use Rattle.cut_plan.specs.Values.{Values}
use Rattle.cut_disks.specs.Log.{DiskLog, Goes, Knows}
use Rattle.cut_ledger.specs.declared.slip.Slip.{Slip}
use Rattle.cut_journal.specs.declared.fault.JournalFault.{JournalFault}
use Rattle.cut_journal.specs.declared.fault.JournalFault.TheVariants as journal
use Rattle.cut_journal.specs.declared.store_fault.StoreFault.{StoreFault}
use Rattle.cut_journal.specs.declared.store_fault.StoreFault.TheVariants as store
use Rattle.cut_journal.specs.Adding.{Adds, failures_after}
use Rattle.cut_journal.specs.Journal.{IsFileOf, JournalValue, fault_counts}
use Rattle.cut_journal.specs.Opening.{IsClaimed, IsNotClaimed, MayNotClaim}
use Rattle.cut_shares.specs.join.Joined.{joined}
use Rattle.cut_shares.specs.join.Joining.{EndsJoin}
use Rattle.cut_commands.specs.declared.fault.CliFault.{CliFault}
use Rattle.cut_commands.specs.declared.fault.CliFault.TheVariants.{Memory, Store}
use Rattle.cut_commands.specs.Faults.{fault_of_journal, fault_of_store}
use Rattle.cut_commands.specs.NewStudy.{HasPart, IsNewJournal, writing_faults}
use Rattle.cut_commands.proofs.NewStudies.{AreFirst, GoesOn, first_added, goes_all, goes_begun, goes_filled, goes_part}
use Rattle.cut_commands.proofs.NewStudies.{none_next}
use Rattle.cut_machines.specs.JoinTarget.{LeavesDisk, StopsWriting}
use Rattle.cut_machines.specs.inside.JoinTarget.{FillsJoined}

-- ---- a join to a new journal

module _ {D : Type 0} (log : D → DiskLog) (v : Values) (ss : List Slip) (old new : JournalValue D)
    (is : IsNewJournal v old) (file : Knows (log new.disk) (IsFileOf new.plan new.count new.doubtful)) where
  -- all were written
  pub fills_all : (n : ℕ) → EndsJoin log (Ok n) v ss old new → FillsJoined (Ok n) v ss (log old.disk) (log new.disk)
  fills_all n (added, failed, ends) = (
    ends.1.2,
    goes_all log v old new is file (joined v ss) (subst (λ (xs : List Slip). Adds log xs None old new) ends.1.1.0
        (subst (λ (o : Option Slip). Adds log added o old new) ends.1.1.1 ends.0)),
  )

  -- or some first ones
  part : (added : List Slip) (failed some : Option Slip) → failed ≡ some → Adds log added failed old new
      → AreFirst (joined v ss) added × GoesOn (joined v ss) added failed
      → Goes (failures_after some) (HasPart v (joined v ss)) (log old.disk) (log new.disk)
  part added failed some same adds first =
      subst (λ (o : Option Slip). Goes (failures_after o) (HasPart v (joined v ss)) (log old.disk) (log new.disk)) same
      (goes_part log v old new is file (joined v ss) added failed first.0 first.1 adds)

  pub fills_some : (fault : StoreFault) → EndsJoin log (Err fault) v ss old new
      → FillsJoined (Err (fault_of_store fault)) v ss (log old.disk) (log new.disk)
  fills_some store.Memory (added, failed, ends) = part added failed None ends.1.1 ends.0 (
    (joined v ss, ap (λ (xs : List Slip). xs ++ joined v ss) (sym ends.1.0)),
    none_next (joined v ss) added failed ends.1.1,
  )
  fills_some store.Disk (added, failed, ends) = part added failed (Some ends.1.1.0) ends.1.1.2.1 ends.0
      (first_added {T = ℕ} (Err store.Disk) (joined v ss) old.doubtful added failed ends.1.1)
  fills_some store.OtherPlan (added, failed, ends) = absurd (ends.1.0 is.plan)
  fills_some store.Broken (added, failed, ends) =
      absurd (let some = subst (λ (o : Option Slip). IsSome o) is.whole ends.1.1.1 in cc some)
  fills_some fault (added, failed, ends) = absurd ends.1.1

-- ---- the journal is made, and filled

pub left_filled : (result : Result ℕ CliFault) (v : Values) (ss : List Slip) (old mid new : DiskLog)
    → Goes (λ n. n) (IsClaimed v) old mid → FillsJoined result v ss mid new
    → Goes (writing_faults result) (LeavesDisk result v ss) old new
left_filled (Ok n) v ss old mid new claimed fills = goes_filled v (joined v ss) old mid new claimed fills.1
left_filled (Err Memory) v ss old mid new claimed fills =
    let goes = goes_begun (λ n. n) v (joined v ss) old mid new claimed fills in
    record { known = goes.known; state = λ known. inr (goes.state known); faults = goes.faults }
left_filled (Err (Store store.Disk)) v ss old mid new claimed fills =
    goes_begun one_more v (joined v ss) old mid new claimed fills
left_filled (Err fault) v ss old mid new claimed fills = absurd fills

-- how many there are is said, or why not all were written
pub filled_ends : (result : Result ℕ CliFault) (v : Values) (ss : List Slip) (mid new : DiskLog)
    → FillsJoined result v ss mid new
    → IfOk result (λ n. n ≡ length (joined v ss)) × IfErr result StopsWriting
filled_ends (Ok n) v ss mid new fills = (fills.0, tt)
filled_ends (Err Memory) v ss mid new fills = (tt, tt)
filled_ends (Err (Store store.Disk)) v ss mid new fills = (tt, tt)
filled_ends (Err fault) v ss mid new fills = absurd fills

pub left_unclaimed : (fault : JournalFault) (v : Values) (ss : List Slip) (old new : DiskLog) → MayNotClaim fault
    → Goes (fault_counts fault) (IsNotClaimed v fault) old new
    → Goes (writing_faults {T = ℕ} (Err (fault_of_journal fault))) (LeavesDisk {T = ℕ} (Err (fault_of_journal fault)) v ss) old new
left_unclaimed journal.Memory v ss old new may goes =
    record { known = goes.known; state = λ known. inl (goes.state known); faults = goes.faults }
left_unclaimed journal.Disk v ss old new may goes = goes
left_unclaimed journal.Held v ss old new may goes = goes
left_unclaimed journal.NoStudy v ss old new may goes = goes
left_unclaimed fault v ss old new may goes = absurd may
