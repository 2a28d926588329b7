-- Slips that are added to a journal, one after another.
use Rattle.std.proofs.Common.{◌≡◌, ◌∙◌, ◌≤◌, ◌++◌, inl, ℕ, List, [], ◌∷◌, Ok, Err, Option, Some, None, refl}
use Rattle.std.proofs.Common.{sym, ap, subst, arith, append-nil, append_assoc, length, length-append}
use Rattle.std.specs.Bool.{⊤}
use Rattle.std.specs.Prelude.{IsSome, IsErrOf, ◌↔◌}
use Rattle.cut_disks.specs.Log.{DiskLog, Knows, on}
use Rattle.cut_ledger.specs.declared.slip.Slip.{Slip}
use Rattle.cut_journal.specs.declared.fault.JournalFault.{JournalFault}
use Rattle.cut_journal.specs.declared.fault.JournalFault.TheVariants as journal
use Rattle.cut_journal.specs.declared.store_fault.StoreFault.{StoreFault}
use Rattle.cut_journal.specs.declared.store_fault.StoreFault.TheVariants as store
use Rattle.cut_journal.specs.Adding.{Adds, EndsAdding, doubtful_after}
use Rattle.cut_journal.specs.inside.Adding.{store_fault_of}
use Rattle.cut_journal.specs.Journal.{Appends, IsFileOf, IsSlipAppendFault, JournalValue, LeavesAppend, ReadsAs}
use Rattle.cut_journal.specs.Journal.{kept_slips}
use Rattle.cut_journal.proofs.Moments.{stays}
use Rattle.cut_journal.proofs.Series.{LeavesDoubt, each_then, none_of, nothing_appended}

-- ---- none, and some after others

-- nothing is added
pub none_added : {D : Type 0} (log : D → DiskLog) (j : JournalValue D)
    → Knows (log j.disk) (IsFileOf j.plan j.count j.doubtful) → Adds log [] None j j
none_added log j sound =
    grind (arith, nothing_appended, append-nil)

-- what is left to be said of the doubtful slip
doubt_left : (ys : List Slip) (failed before after : Option Slip) → (1 ≤ length ys → before ≡ None)
    → (IsSome failed → before ≡ None) → after ≡ doubtful_after failed before → LeavesDoubt before after ys
doubt_left [] failed before after taken whole is = grind arith
doubt_left (y ∷ ys) failed before after taken whole is = grind arith

taken_in : (xs ys : List Slip) (old mid : Option Slip) → (1 ≤ length xs → old ≡ None) → mid ≡ old
    → (1 ≤ length ys → mid ≡ None) → 1 ≤ length (xs ++ ys) → old ≡ None
taken_in xs ys old mid before same after some =
    grind (arith, length-append)

-- slips that are added after others
pub added_then : {D : Type 0} (log : D → DiskLog) (xs ys : List Slip) (failed : Option Slip)
    (old mid new : JournalValue D) → Adds log xs None old mid → Adds log ys failed mid new
    → Adds log (xs ++ ys) failed old new
added_then log xs ys failed old mid new before after =
    grind (
      arith,
      length-append,
      append_assoc,
      taken_in xs ys old.doubtful mid.doubtful,
      doubt_left ys failed
          mid.doubtful new.doubtful,
      each_then old.plan (kept_slips old.plan old.count (on (log old.disk)))
          (kept_slips mid.plan mid.count (on (log mid.disk))) xs ys mid.doubtful new.doubtful (on (log old.disk))
          (on (log mid.disk)) (on (log new.disk)),
    )

-- ---- one

module _ {D : Type 0} (log : D → DiskLog) (slip : Slip) (old new : JournalValue D)
    (sound : Knows (log old.disk) (IsFileOf old.plan old.count old.doubtful)) where
  pub slip_added : (n : ℕ) → (IsErrOf {T = ℕ} (Ok n) journal.Broken ↔ IsSome old.doubtful)
      → LeavesAppend (Ok n) slip old new → Appends log (Ok n) slip old new
      → EndsAdding {T = ⊤} log (Ok tt) (slip ∷ []) old new
  slip_added n broken left appends =
      let none : old.doubtful ≡ None = none_of old.doubtful (λ some. cc (broken.1 some)) in
      let kept : List Slip = kept_slips old.plan old.count (on (log old.disk)) ++ slip ∷ [] in
      let adds : Adds log (slip ∷ []) None old new = record {
        plan = left.0;
        count = left.1;
        doubtful = left.2 ∙ sym none;
        taken = λ some. none;
        whole = λ some. none;
        untouched = λ zero unfailed. absurd (omega (arith, zero));
        disk = record {
          known = appends.known;
          state = λ known. (let one = appends.state known in
              let after = stays (ReadsAs old.plan kept new.doubtful) (on (log new.disk)) (on (log new.disk)) refl
              (λ image of. inl (one.acknowledged image of ∙ ap (λ (l : List Slip). Ok l) one.kept)) in
              record { moments = (on (log new.disk), (rw none at one.moments, after)); kept = one.kept });
          faults = appends.faults;
        };
      } in
      (slip ∷ [], None, (adds, (refl, refl)))

  pub slip_failed : (e : JournalFault) → IsSlipAppendFault e
      → (IsErrOf {T = ℕ} (Err e) journal.Broken ↔ IsSome old.doubtful) → LeavesAppend (Err e) slip old new
      → Appends log (Err e) slip old new → EndsAdding {T = ⊤} log (Err (store_fault_of e)) (slip ∷ []) old new
  slip_failed journal.Disk may broken left appends =
      let none : old.doubtful ≡ None = none_of old.doubtful (λ some. cc (broken.1 some)) in
      ([], Some slip, (grind (arith, none, append-nil), (slip, [], (refl, refl))))
  slip_failed journal.Broken may broken left appends =
      subst (λ (j : JournalValue D). EndsAdding {T = ⊤} log (Err store.Broken) (slip ∷ []) old j) (sym left)
      ([], None, (none_added log old sound, (omega arith, broken.0 refl, (refl, refl))))
  slip_failed fault may broken left appends = absurd may

-- ---- how some end after others

pub all_added : {T D : Type 0} (log : D → DiskLog) (done : T) (xs ys all : List Slip) (old mid new : JournalValue D)
    → xs ++ ys ≡ all → Adds log xs None old mid → EndsAdding {T = T} log (Ok done) ys mid new → Adds log all None old new
all_added log done xs ys all old mid new are before (added, failed, ends) =
    grind (arith, added_then log xs added failed old mid new)

-- none were added before to a journal that is broken
pub none_before : (xs : List Slip) (old mid : Option Slip) → (1 ≤ length xs → old ≡ None) → mid ≡ old → IsSome mid → xs ≡ []
none_before [] old mid taken same some = refl
none_before (x ∷ xs) old mid taken same some = grind arith

regroup : (xs added : List Slip) (slip : Slip) (later rest : List Slip)
    → (xs ++ (added ++ slip ∷ later)) ++ rest ≡ (xs ++ added) ++ slip ∷ (later ++ rest)
regroup xs added slip later rest = simp append_assoc

pub adding_stops : (T U : Type 0) {D : Type 0} (log : D → DiskLog) (e : StoreFault) (xs ys rest all : List Slip)
    (old mid new : JournalValue D) → all ≡ (xs ++ ys) ++ rest → Adds log xs None old mid
    → EndsAdding {T = T} log (Err e) ys mid new → EndsAdding {T = U} log (Err e) all old new
adding_stops T U log store.Broken xs ys rest all old mid new are before (added, failed, ends) =
    let none = none_before xs old.doubtful mid.doubtful before.taken before.doubtful ends.1.1 in
    (xs ++ added, failed, grind (arith, added_then log xs added failed old mid new before ends.0, none, length-append))
adding_stops T U log store.Disk xs ys rest all old mid new are before (added, failed, ends) = (
  xs ++ added,
  failed,
  (
    added_then log xs added failed old mid new before ends.0,
    (ends.1.0, ends.1.1 ++ rest, grind (arith, regroup xs added ends.1.0 ends.1.1 rest)),
  ),
)
adding_stops T U log fault xs ys rest all old mid new are before (added, failed, ends) = absurd ends.1

-- the disk failed at the only one
pub one_failed : (x : Slip) (added : List Slip) (slip : Slip) (later : List Slip) → x ∷ [] ≡ added ++ slip ∷ later
    → (added ≡ []) × (slip ≡ x)
one_failed x [] slip later are = (refl, cc)
one_failed x (y ∷ added) slip later are =
    absurd (omega (arith, ap (λ (l : List Slip). length l) are, length-append added (slip ∷ later)))
