-- What a migration leaves on its disks and writes, by its parts.
use Rattle.std.proofs.Common.{◌≡◌, ◌∙◌, ◌++◌, ◌+◌, ◌-◌, ◌≤◌, ◌<◌, inl, inr, ℕ, List, [], ◌∷◌, Option, Some, None}
use Rattle.std.proofs.Common.{Bool, Result, Ok, Err, length, nat_lt, take, refl, sym, ap, subst, arith}
use Rattle.std.proofs.lemmas.List.{map_more, take_all, take-map}
use Rattle.std.specs.Bool.{⊤}
use Rattle.std.specs.Prelude.{IsSome, slice_index_or}
use Rattle.cut_faults.specs.Failures.{one_more}
use Rattle.cut_plan.specs.Targets.{upgraded}
use Rattle.cut_plan.specs.Values.{Values}
use Rattle.cut_disks.specs.Log.{DiskLog, Goes, Knows, is_known, on}
use Rattle.cut_files.specs.Place.{Place}
use Rattle.cut_outcome.specs.Sum.{each_number}
use Rattle.cut_ledger.specs.declared.slip.Slip.{Slip}
use Rattle.cut_journal.specs.declared.fault.JournalFault.{JournalFault}
use Rattle.cut_journal.specs.declared.fault.JournalFault.TheVariants as journal
use Rattle.cut_journal.specs.Adding.{Adds, AddsNothing, failures_after}
use Rattle.cut_journal.specs.Journal.{IsFileOf, JournalValue, fault_counts}
use Rattle.cut_journal.specs.Opening.{IsClaimed, IsNotClaimed, IsOpeningFaultOf, IsRead, IsRefused, IsReopened, MayNotClaim}
use Rattle.cut_journal.specs.declared.store_fault.StoreFault.{StoreFault}
use Rattle.cut_journal.specs.declared.store_fault.StoreFault.TheVariants as store
use Rattle.cut_migration.specs.Migration as moves
use Rattle.cut_migration.specs.Migration.{AreTrueUpTo, first_moved, moved}
use Rattle.cut_wires.specs.Log.{WireLog}
use Rattle.cut_commands.specs.declared.fault.CliFault.{CliFault}
use Rattle.cut_commands.specs.declared.fault.CliFault.TheVariants.{Memory, Plan, Read, Write, Journal, Store}
use Rattle.cut_commands.specs.Faults.{fault_of_journal, fault_of_store}
use Rattle.cut_commands.specs.Migrate.{AreStill, EndsMove, HasMovedAll, IsFree, LeavesSome, LeavesStill, MigrateDisks}
use Rattle.cut_commands.specs.Migrate.{MigratesFrom, WasRead, all_moved, migrate_task, moved_text}
use Rattle.cut_commands.specs.NewStudy.{HasAll, HasPart, IsNewJournal}
use Rattle.cut_commands.specs.Run.{GivesPlanFrom, IsReadAs, IsWritten, LeavesStudy}
use Rattle.cut_commands.specs.inside.Migrate.{EndsFilling, Fills, IsOldRefused, WritesCount}
use Rattle.cut_commands.proofs.NewStudies.{AreFirst, GoesOn, goes_all, goes_begun, goes_filled, goes_part, next_is}
use Rattle.cut_commands.proofs.NewStudies.{none_next, taken_first}
use Rattle.cut_commands.proofs.RunLemmas.{ends_unread, leaves_answer, leaves_nothing}
use Rattle.cut_commands.proofs.Sources.{ends_read, ends_refused_text}

-- a slip, where any serves
abbrev no_slip : Slip
no_slip = record { piece = record { first = 0; count = 0 }; totals = each_number (λ n. 0) }

not_some : IsSome {T = Slip} None → ⊥
not_some some = cc some

-- ---- the old disk

pub old_refused : (fault : JournalFault) (v : Values) (old new : DiskLog) → IsOpeningFaultOf fault
    → Goes (fault_counts fault) (IsRefused v fault) old new → IsOldRefused (fault_of_journal fault) v old new
old_refused journal.Memory v old new may goes =
    record { known = goes.known; state = λ known. (goes.state known).1; faults = goes.faults }
old_refused journal.Disk v old new may goes = (tt, goes)
old_refused journal.NoStudy v old new may goes = (tt, goes)
old_refused journal.OtherPlan v old new may goes = (tt, goes)
old_refused (journal.Damaged n) v old new may goes = (tt, goes)
old_refused fault v old new may goes = absurd may

pub was_read : (d : MigrateDisks) (v : Values) (slips : List Slip) → Goes (λ n. n) (IsReopened v slips) d.old d.old_back
    → WasRead d v slips
was_read d v slips goes = record {
  held = λ known. (goes.state known).0;
  left = record { known = goes.known; state = λ known. (goes.state known).1; faults = goes.faults };
}

-- ---- slips that are moved to a new journal

first_of_all : (v : Values) (ss : List Slip) (n : ℕ) → n ≤ length ss → take n (all_moved v ss) ≡ first_moved v ss n
first_of_all v ss n few = grind (arith, take-map, take_all)

module _ {D : Type 0} (log : D → DiskLog) (v : Values) (ss : List Slip) (old new : JournalValue D)
    (is : IsNewJournal (upgraded v) old) (file : Knows (log new.disk) (IsFileOf new.plan new.count new.doubtful)) where
  -- all of the first n, and the disk did not fail
  all_of : (n : ℕ) (added : List Slip) (failed : Option Slip) → Adds log added failed old new → failed ≡ None
      → added ≡ first_moved v ss n → Goes (λ n. n) (HasAll (upgraded v) (first_moved v ss n)) (log old.disk) (log new.disk)
  all_of n added failed adds unfailed are =
      subst (λ (xs : List Slip). Goes (λ k. k) (HasAll (upgraded v) xs) (log old.disk) (log new.disk)) are
      (goes_all log (upgraded v) old new is file added
      (subst (λ (o : Option Slip). Adds log added o old new) unfailed adds))

  -- nothing was done
  none_of : (added : List Slip) (failed : Option Slip) → Adds log added failed old new → AddsNothing added failed
      → Goes (λ n. n) (HasAll (upgraded v) []) (log old.disk) (log new.disk)
  none_of added failed adds none = all_of 0 added failed adds none.1 none.0

  -- the first n of all
  part_of : (n : ℕ) (added : List Slip) (failed : Option Slip) → n ≤ length ss → Adds log added failed old new
      → added ≡ first_moved v ss n → GoesOn (all_moved v ss) (first_moved v ss n) failed
      → Goes (failures_after failed) (HasPart (upgraded v) (all_moved v ss)) (log old.disk) (log new.disk)
  part_of n added failed few adds are next =
      goes_part log (upgraded v) old new is file (all_moved v ss) (first_moved v ss n) failed
      (subst (λ (xs : List Slip). AreFirst (all_moved v ss) xs) (first_of_all v ss n few) (taken_first (all_moved v ss) n))
      next (subst (λ (xs : List Slip). Adds log xs failed old new) are adds)

  -- and no append failed
  some_of : (n : ℕ) (added : List Slip) (failed : Option Slip) → n ≤ length ss → Adds log added failed old new
      → added ≡ first_moved v ss n → failed ≡ None
      → Goes (λ n. n) (HasPart (upgraded v) (all_moved v ss)) (log old.disk) (log new.disk)
  some_of n added failed few adds are unfailed =
      subst (λ (o : Option Slip). Goes (failures_after o) (HasPart (upgraded v) (all_moved v ss)) (log old.disk)
      (log new.disk)) unfailed
      (part_of n added failed few adds are (none_next (all_moved v ss) (first_moved v ss n) failed unfailed))

  next_of : (n : ℕ) (failed : Option Slip) → n < length ss
      → ((d : Slip) → failed ≡ Some (moved v (slice_index_or ss n d)))
      → GoesOn (all_moved v ss) (first_moved v ss n) failed
  next_of n failed low at = λ slip is.
      let same : moved v (slice_index_or ss n slip) ≡ slip =
      next_is (moved v (slice_index_or ss n slip)) slip (sym (at slip) ∙ is) in
      subst (λ (xs : List Slip). AreFirst (all_moved v ss) xs)
      (map_more (moved v) ss n slip low ∙ ap (λ (s : Slip). first_moved v ss n ++ s ∷ []) same)
      (subst (λ (xs : List Slip). AreFirst (all_moved v ss) xs) (first_of_all v ss (n + 1) (omega (arith, low)))
      (taken_first (all_moved v ss) (n + 1)))

  pub fills_all : (n : ℕ) → moves.EndsMigration log (Ok n) v ss old new → Fills (Ok n) v ss (log old.disk) (log new.disk)
  fills_all n (added, failed, ends) =
      let moved_so = ends.1.2 in (
        ends.1.0,
        ends.1.1.version,
        ends.1.1.good,
        subst (λ (m : ℕ). AreTrueUpTo v ss m) ends.1.0 moved_so.true,
        subst (λ (m : ℕ). Goes (λ k. k) (HasAll (upgraded v) (first_moved v ss m)) (log old.disk) (log new.disk)) ends.1.0
            (all_of n added failed ends.0 ends.1.3 moved_so.added_are),
      )

  pub fills_some : (fault : StoreFault) → moves.EndsMigration log (Err fault) v ss old new
      → Fills (Err (fault_of_store fault)) v ss (log old.disk) (log new.disk)
  fills_some store.Memory (added, failed, ends) = elim ends.1.1 [
    | inl none ↦ some_of 0 added failed (omega arith) ends.0 none.0 none.1
    | inr some ↦ some_of some.1.0 added failed some.1.1.0.within ends.0 some.1.1.0.added_are some.1.1.1
  ]
  fills_some store.NotVersion1 (added, failed, ends) = (ends.1.0, none_of added failed ends.0 ends.1.1)
  fills_some (store.BadSlip n) (added, failed, ends) = (ends.1.0, ends.1.1, none_of added failed ends.0 ends.1.2)
  fills_some store.OtherPlan (added, failed, ends) = absurd (ends.1.2 is.plan)
  fills_some (store.Disagrees n) (added, failed, ends) = (
    ends.1.0.version,
    ends.1.0.good,
    ends.1.1,
    all_of (n - 1) added failed ends.0 ends.1.3 ends.1.2.added_are,
  )
  fills_some store.Broken (added, failed, ends) =
      absurd (not_some (subst (λ (o : Option Slip). IsSome o) is.whole ends.1.3))
  fills_some store.Disk (added, failed, ends) =
      let n : ℕ = ends.1.1.0 in let fails = ends.1.1.1 in (
        ends.1.0.version,
        ends.1.0.good,
        subst (λ (o : Option Slip). Goes (failures_after o) (HasPart (upgraded v) (all_moved v ss)) (log old.disk)
            (log new.disk)) (fails.failed_at no_slip)
            (part_of n added failed (let low = fails.within in omega (arith, low)) ends.0 fails.added_are
            (next_of n failed fails.within fails.failed_at)),
      )
  fills_some store.WorkMemory (added, failed, ends) = absurd ends.1

-- ---- and to a disk on which that journal is made

module _ (v : Values) (ss : List Slip) (old mid new : DiskLog) (claimed : Goes (λ n. n) (IsClaimed (upgraded v)) old mid) where
  free : IsFree old
  free known = (claimed.state known).0

  pub since_claimed : (result : Result ℕ CliFault) → Fills result v ss mid new → EndsFilling result v ss old new
  since_claimed (Ok n) fills =
      (fills.0, fills.1, fills.2, fills.3, free, goes_filled (upgraded v) (all_moved v ss) old mid new claimed fills.4)
  since_claimed (Err Memory) fills =
      inr (goes_begun (λ n. n) (upgraded v) (all_moved v ss) old mid new claimed fills)
  since_claimed (Err (Store store.NotVersion1)) fills =
      (fills.0, free, goes_filled (upgraded v) [] old mid new claimed fills.1)
  since_claimed (Err (Store (store.BadSlip n))) fills =
      (fills.0, fills.1, free, goes_filled (upgraded v) [] old mid new claimed fills.2)
  since_claimed (Err (Store (store.Disagrees n))) fills = (
    fills.0,
    fills.1,
    fills.2,
    free,
    goes_filled (upgraded v) (first_moved v ss (n - 1)) old mid new claimed fills.3,
  )
  since_claimed (Err (Store store.Disk)) fills =
      (fills.0, fills.1, free, goes_begun one_more (upgraded v) (all_moved v ss) old mid new claimed fills.2)
  since_claimed (Err fault) fills = absurd fills

pub not_claimed : (fault : JournalFault) (v : Values) (ss : List Slip) (old new : DiskLog) → MayNotClaim fault
    → Goes (fault_counts fault) (IsNotClaimed (upgraded v) fault) old new
    → EndsFilling (Err (fault_of_journal fault)) v ss old new
not_claimed journal.Memory v ss old new may goes =
    inl (record { known = goes.known; state = goes.state; faults = goes.faults })
not_claimed journal.Disk v ss old new may goes = (tt, goes)
not_claimed journal.Held v ss old new may goes = (tt, goes)
not_claimed journal.NoStudy v ss old new may goes = (tt, goes)
not_claimed fault v ss old new may goes = absurd may

-- ---- both disks

still : (old new : DiskLog) → new ≡ old → Goes (λ n. n) (λ a b. b ≡ a) old new
still old new same = record {
  known = ap (λ (l : DiskLog). is_known l) same;
  state = λ known. ap (λ (l : DiskLog). on l) same;
  faults = ap (λ (l : DiskLog). l.failed) same;
}

-- the old disk said no slips, and nothing was done to the new one
pub old_ends : (d : MigrateDisks) (v : Values) (fault : CliFault) → IsOldRefused fault v d.old d.old_back
    → d.new_back ≡ d.new → EndsMove d v (Err fault)
old_ends d v Memory refused same = record { old = refused; new = inl (still d.new d.new_back same) }
old_ends d v (Journal fault) refused same = inl (refused.0, refused.1, same)
old_ends d v fault refused same = absurd refused

looked_at : (d : MigrateDisks) (v : Values) (slips : List Slip) → WasRead d v slips
    → Goes (λ n. n) (IsRead journal.Memory) d.old d.old_back
looked_at d v slips read =
    record { known = read.left.known; state = λ known. inr (read.left.state known); faults = read.left.faults }

-- it said some, which were moved as far as is said
pub moved_ends : (d : MigrateDisks) (v : Values) (slips : List Slip) (result : Result ℕ CliFault) → WasRead d v slips
    → EndsFilling result v slips d.new d.new_back → EndsMove d v result
moved_ends d v slips (Ok n) read ends = record {
  slips = slips;
  ready = record { version = ends.1; read = read; free = ends.4 };
  good = ends.2;
  true = ends.3;
  all = ends.0;
  left = ends.5;
}
moved_ends d v slips (Err Memory) read (inl same) = record { old = looked_at d v slips read; new = inl same }
moved_ends d v slips (Err Memory) read (inr begun) =
    record { old = looked_at d v slips read; new = inr (slips, read, begun) }
moved_ends d v slips (Err (Journal fault)) read ends = inr (ends.0, ends.1, (slips, read))
moved_ends d v slips (Err (Store store.NotVersion1)) read ends = (ends.0, (slips, read, ends.1), ends.2)
moved_ends d v slips (Err (Store (store.BadSlip n))) read ends =
    (slips, record { version = ends.0; read = read; free = ends.2 }, ends.1, ends.3)
moved_ends d v slips (Err (Store (store.Disagrees n))) read ends =
    (slips, record { version = ends.0; read = read; free = ends.3 }, ends.1, ends.2, ends.4)
moved_ends d v slips (Err (Store store.Disk)) read ends =
    (slips, record { version = ends.0; read = read; free = ends.2 }, ends.1, ends.3)
moved_ends d v slips (Err fault) read ends = absurd ends

-- ---- the answer

-- memory ran out for it once all slips were moved
some_of_all : (d : MigrateDisks) (v : Values) (n : ℕ) → HasMovedAll d v n → LeavesSome d v
some_of_all d v n moved = record {
  old = looked_at d v moved.slips moved.ready.read;
  new = inr (
    moved.slips,
    moved.ready.read,
    record { known = moved.left.known; state = λ known. (moved.left.state known).begun; faults = moved.left.faults },
  );
}

pub writes_count : (n : ℕ) (result : Result ⊤ CliFault) (old new : WireLog) → IsWritten (moved_text n) result old new
    → WritesCount n result old new
writes_count n (Ok done) old new is = is
writes_count n (Err Memory) old new is = absurd is
writes_count n (Err fault) old new is = is

-- nothing is written where not all were moved
leaves_none : (d : MigrateDisks) (v : Values) (fault : CliFault) (l : WireLog) → EndsMove d v (Err fault)
    → LeavesStudy (migrate_task d) v (Err fault) l l
leaves_none d v Memory l ends = leaves_nothing (migrate_task d) v Memory l refl refl
leaves_none d v (Journal fault) l ends = leaves_nothing (migrate_task d) v (Journal fault) l refl (ends, refl)
leaves_none d v (Store fault) l ends = leaves_nothing (migrate_task d) v (Store fault) l refl (ends, refl)
leaves_none d v fault l ends = absurd ends

module _ (plan : Option Place) (d : MigrateDisks) (v : Values) (old mid : WireLog) (given : GivesPlanFrom plan (Ok v) old mid)
  where
    stopped_still : (fault : CliFault) → EndsMove d v (Err fault) → LeavesStill plan d old mid (Err fault)
    stopped_still Memory ends = inr (v, (given, ends))
    stopped_still Read ends = absurd ends
    stopped_still (Plan refusal) ends = absurd ends
    stopped_still fault ends = tt

    pub migrates_none : (fault : CliFault) → EndsMove d v (Err fault) → MigratesFrom plan d old mid (Err fault)
    migrates_none fault ends = inl (record {
      command = ends_read (migrate_task d) plan v (Err fault) old mid mid given (leaves_none d v fault mid ends);
      other = stopped_still fault ends;
    })

    written_still : (result : Result ⊤ CliFault) (n : ℕ) (new : WireLog) → IsWritten (moved_text n) result mid new
        → LeavesStill plan d old new result
    written_still (Ok done) n new is = tt
    written_still (Err (Write fault)) n new is = tt
    written_still (Err fault) n new is = absurd is

    written : (n : ℕ) (result : Result ⊤ CliFault) (new : WireLog) → HasMovedAll d v n
        → IsWritten (moved_text n) result mid new → MigratesFrom plan d old new result
    written n result new moved is = inl (record {
      command = ends_read (migrate_task d) plan v result old mid new given
          (leaves_answer (migrate_task d) v (moved_text n) result mid new (n, moved, refl) is);
      other = written_still result n new is;
    })

    pub migrates_all : (n : ℕ) (result : Result ⊤ CliFault) (new : WireLog) → HasMovedAll d v n
        → WritesCount n result mid new → MigratesFrom plan d old new result
    migrates_all n (Ok done) new moved is = written n (Ok done) new moved is
    migrates_all n (Err Memory) new moved is =
        subst (λ (l : WireLog). MigratesFrom plan d old l (Err Memory)) (sym is)
        (migrates_none Memory (some_of_all d v n moved))
    migrates_all n (Err (Write fault)) new moved is = written n (Err (Write fault)) new moved is
    migrates_all n (Err fault) new moved is = absurd is

-- ---- no plan was read

unread_still : (fault : CliFault) (text : List ℕ) (ended : Bool) → IsReadAs text ended (Err fault) → (plan : Option Place)
    (d : MigrateDisks) (old new : WireLog) → AreStill d → LeavesStill plan d old new (Err fault)
unread_still Memory text ended is plan d old new same = inl same
unread_still Read text ended is plan d old new same = same
unread_still (Plan refusal) text ended is plan d old new same = same
unread_still fault text ended is plan d old new same = absurd is

pub migrates_unread : (plan : Option Place) (d : MigrateDisks) (fault : CliFault) (old new : WireLog) → AreStill d
    → GivesPlanFrom plan (Err fault) old new → MigratesFrom plan d old new (Err fault)
migrates_unread None d fault old new same given = inl (record {
  command = ends_unread (migrate_task d) fault old new given;
  other = unread_still fault given.text given.ended given.is None d old new same;
})
migrates_unread (Some place) d fault old new same given = elim given [
  | inl read ↦ inl (record {
    command = ends_refused_text (migrate_task d) place fault old new read.0 read.1.0 read.1.1 read.1.2;
    other = unread_still fault read.0 (nat_lt (length read.0) 65537) read.1.1 (Some place) d old new same;
  })
  | inr unread ↦ inr (same, unread)
]
