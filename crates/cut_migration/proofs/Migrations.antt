-- What a migration has moved, slip by slip, and how it ends.
use Rattle.std.proofs.Common.{◌≡◌, ◌∙◌, ◌<◌, ◌+◌, ◌-◌, ◌++◌, inl, inr, ℕ, zero, suc, List, [], ◌∷◌, Ok, Err, Option, Some, None}
use Rattle.std.proofs.Common.{length, refl, sym, ap, subst, arith, append-nil}
use Rattle.std.specs.Bool.{⊤}
use Rattle.std.specs.Prelude.{IsSome, Result, ◌⊎◌, slice_get, slice_index_or}
use Rattle.std.proofs.Math.Nat.{eq-or-lt_of_le}
use Rattle.std.proofs.lemmas.List.{map_more}
use Rattle.std.proofs.lemmas.Option.{get_or_from_slice_get, slice_get_within}
use Rattle.cut_plan.specs.Targets.{upgraded}
use Rattle.cut_plan.specs.Values.{Values}
use Rattle.cut_outcome.specs.Computed.{Computed}
use Rattle.cut_disks.specs.Log.{DiskLog, Knows}
use Rattle.cut_fields.specs.declared.version.Version.TheVariants.{One}
use Rattle.cut_plan.specs.Failing.{version_of}
use Rattle.cut_ledger.specs.declared.slips_fault.SlipsFault.{SlipsFault}
use Rattle.cut_ledger.specs.declared.slips_fault.SlipsFault.TheVariants as slips
use Rattle.cut_ledger.specs.Slips.{IsFaultOfSlips, IsFirstBad}
use Rattle.cut_ledger.specs.declared.slip.Slip.{Slip}
use Rattle.cut_ledger.specs.Machine.{slip_of}
use Rattle.cut_ledger.specs.World.{IsTrueSlip}
use Rattle.cut_journal.specs.declared.store_fault.StoreFault.{StoreFault}
use Rattle.cut_journal.specs.declared.store_fault.StoreFault.TheVariants.{Memory}
use Rattle.cut_journal.specs.declared.store_fault.StoreFault.TheVariants.{Disagrees, Broken, Disk}
use Rattle.cut_journal.specs.Adding.{Adds, EndsAdding}
use Rattle.cut_journal.specs.FaultCode.{fault_of_slips}
use Rattle.cut_journal.specs.Journal.{IsFileOf, JournalValue}
use Rattle.cut_journal.proofs.Adding.{added_then, all_added, none_added, none_before, one_failed}
use Rattle.cut_migration.specs.Migration.{AreTrueUpTo, CanMove, EndsMigration, StopsMoving, first_moved, moved}
use Rattle.cut_migration.specs.inside.Migration.{MovesOne}

-- ---- nothing is moved

pub unmoved : {D : Type 0} (log : D → DiskLog) (result : Result ℕ StoreFault) (e : StoreFault) (v : Values)
    (ss : List Slip) (j : JournalValue D) → Knows (log j.disk) (IsFileOf j.plan j.count j.doubtful) → result ≡ Err e
    → StopsMoving (Err e) v ss j [] None → EndsMigration log result v ss j j
unmoved log result e v ss j sound is stops =
    subst (λ (x : Result ℕ StoreFault). EndsMigration log x v ss j j) (sym is)
    ([], None, (none_added log j sound, stops))

-- as a slip is a bad one
pub refused : {D : Type 0} (fault : SlipsFault) (v w : Values) (ss : List Slip) (j : JournalValue D)
    → version_of v.failing ≡ One → w ≡ v → IsFaultOfSlips w ss fault → StopsMoving (Err (fault_of_slips fault)) v ss j [] None
refused slips.Memory v w ss j version same is = (version, inl (refl, refl))
refused (slips.BadSlip n) v w ss j version same is =
    (version, subst (λ (u : Values). IsFirstBad u ss n) same is, (refl, refl))

-- ---- one slip

-- what an append of a result for the upgrade keeps is the slip, moved
moved_is : (v up : Values) (s : Slip) (r : Computed) → up ≡ upgraded v → r ≡ record { plan = up; piece = s.piece }
    → slip_of r ≡ moved v s
moved_is v up s r upgrade is =
    search arith

pub adds_moved : {D : Type 0} (log : D → DiskLog) (result : Result ⊤ StoreFault) (v up : Values) (number : ℕ) (s : Slip)
    (r : Computed) (old new : JournalValue D) → up ≡ upgraded v → r ≡ record { plan = up; piece = s.piece }
    → IsTrueSlip v s → EndsAdding log result (slip_of r ∷ []) old new → MovesOne log result v number s old new
adds_moved log result v up number s r old new upgrade is holds ends =
    by result (subst (λ (x : Slip). EndsAdding log result (x ∷ []) old new) (moved_is v up s r upgrade is) ends)
  where
    by : (result : Result ⊤ StoreFault) → EndsAdding log result (moved v s ∷ []) old new
        → MovesOne log result v number s old new
    by (Ok done) (added, failed, is) = (added, failed, (is.0, (holds, is.1)))
    by (Err (Disagrees n)) (added, failed, is) = absurd is.1
    by (Err Memory) (added, failed, is) = absurd is.1
    by (Err Broken) (added, failed, is) = (added, failed, (is.0, (holds, is.1)))
    by (Err Disk) (added, failed, is) = (added, failed, (is.0, (holds, is.1)))
    by (Err fault) (added, failed, is) = absurd is.1

-- ---- one slip after another

-- with one slip more
pub first_more : (v : Values) (ss : List Slip) (n : ℕ) (s : Slip) → slice_get ss n ≡ Some s
    → first_moved v ss (n + 1) ≡ first_moved v ss n ++ moved v s ∷ []
first_more v ss n s at =
    map_more (moved v) ss n s (slice_get_within ss n s at)
    ∙ ap (λ (x : Slip). first_moved v ss n ++ moved v x ∷ []) (get_or_from_slice_get ss n s s at)

true_at : (v : Values) (ss : List Slip) (n : ℕ) (s : Slip) → slice_get ss n ≡ Some s → AreTrueUpTo v ss n
    → IsTrueSlip v s
    → (i : ℕ) (d : Slip) → (i ≡ n) ⊎ (i < n) → IsTrueSlip v (slice_index_or ss i d)
true_at v ss n s at before here i d (inl is) =
    subst (λ (x : Slip). IsTrueSlip v x)
    (sym (ap (λ k. slice_index_or ss k d) is ∙ get_or_from_slice_get ss n s d at)) here
true_at v ss n s at before here i d (inr below) = before i d below

pub true_more : (v : Values) (ss : List Slip) (n : ℕ) (s : Slip) → slice_get ss n ≡ Some s → AreTrueUpTo v ss n
    → IsTrueSlip v s
    → AreTrueUpTo v ss (n + 1)
true_more v ss n s at before here i d low = true_at v ss n s at before here i d (eq-or-lt_of_le (omega (arith, low)))

pub moved_more : {D : Type 0} (log : D → DiskLog) (v : Values) (ss : List Slip) (n number : ℕ) (s : Slip)
    (old mid new : JournalValue D) → slice_get ss n ≡ Some s → Adds log (first_moved v ss n) None old mid
    → MovesOne {T = ⊤} log (Ok tt) v number s mid new → Adds log (first_moved v ss (n + 1)) None old new
moved_more log v ss n number s old mid new at before (added, failed, one) =
    all_added {T = ⊤} log tt (first_moved v ss n) (moved v s ∷ []) (first_moved v ss (n + 1)) old mid new
    (sym (first_more v ss n s at)) before (added, failed, (one.0, one.1.1))

-- ---- how it ends

no_more : {D : Type 0} (log : D → DiskLog) (xs ys : List Slip) (failed : Option Slip) (old mid new : JournalValue D)
    → Adds log xs None old mid → Adds log ys failed mid new → ys ≡ [] → Adds log xs failed old new
no_more log xs ys failed old mid new before after none =
    subst (λ (l : List Slip). Adds log l failed old new) (ap (λ (l : List Slip). xs ++ l) none ∙ append-nil xs)
    (added_then log xs ys failed old mid new before after)

-- at a slip that is not moved, after the first n
pub stopped : {D : Type 0} (log : D → DiskLog) (e : StoreFault) (v : Values) (ss : List Slip) (n number : ℕ) (s : Slip)
    (old mid new : JournalValue D)
    → number ≡ n + 1 → CanMove v ss old → slice_get ss n ≡ Some s → AreTrueUpTo v ss n
    → Adds log (first_moved v ss n) None old mid
    → MovesOne {T = ⊤} log (Err e) v number s mid new → EndsMigration log (Err e) v ss old new
stopped log Memory v ss n number s old mid new is_number can at true before (added, failed, one) = (
  first_moved v ss n,
  failed,
  (
    no_more log (first_moved v ss n) added failed old mid new before one.0 one.1.0,
    (
      can.version,
      inr (
        can,
        (
          n,
          (
            record {
              within = (let below = slice_get_within ss n s at in omega (arith, below));
              true = true;
              added_are = refl;
            },
            one.1.1,
          ),
        ),
      ),
    ),
  ),
)
stopped log (Disagrees k) v ss n number s old mid new is_number can at true before (added, failed, one) =
    let below = slice_get_within ss n s at in
    let same : n ≡ k - 1 = (let j = one.1.0 in omega (arith, j, is_number)) in (
      first_moved v ss n,
      failed,
      (
        no_more log (first_moved v ss n) added failed old mid new before one.0 one.1.2.0,
        (
          can,
          record {
            numbered = (let j = one.1.0 in omega (arith, j, is_number));
            within = (let j = one.1.0 in omega (arith, j, is_number, below));
            earlier = subst (λ m. AreTrueUpTo v ss m) same true;
            untrue = λ d holds. one.1.1 (subst (λ (x : Slip). IsTrueSlip v x)
                (ap (λ m. slice_index_or ss m d) (sym same) ∙ get_or_from_slice_get ss n s d at) holds);
          },
          record {
            within = (let low : n < length ss = below in omega (arith, low, same));
            true = subst (λ m. AreTrueUpTo v ss m) same true;
            added_are = ap (λ m. first_moved v ss m) same;
          },
          one.1.2.1,
        ),
      ),
    )
stopped log Broken v ss n number s old mid new is_number can at true before (added, failed, one) =
    let some : IsSome old.doubtful = subst (λ (o : Option Slip). IsSome o) before.doubtful one.1.1.1 in
    let none = none_before (first_moved v ss n) old.doubtful mid.doubtful before.taken before.doubtful one.1.1.1 in
    let start : n ≡ 0 = none_moved v ss n (slice_get_within ss n s at) none in (
      first_moved v ss n,
      failed,
      (
        no_more log (first_moved v ss n) added failed old mid new before one.0 one.1.1.2.0,
        (
          can,
          (let below = slice_get_within ss n s at in omega (arith, below)),
          subst (λ m. AreTrueUpTo v ss m) (ap (λ m. m + 1) start) (true_more v ss n s at true one.1.0),
          some,
          (none, one.1.1.2.1),
        ),
      ),
    )
  where
    none_moved : (v : Values) (ss : List Slip) (n : ℕ) → n < length ss → first_moved v ss n ≡ [] → n ≡ 0
    none_moved v [] n low none = absurd (omega (arith, low))
    none_moved v (x ∷ xs) zero low none = refl
    none_moved v (x ∷ xs) (suc n) low none = absurd (cc)
stopped log Disk v ss n number s old mid new is_number can at true before (added, failed, one) =
    let alone = one_failed (moved v s) added one.1.1.0 one.1.1.1 one.1.1.2.0 in (
      first_moved v ss n,
      failed,
      (
        no_more log (first_moved v ss n) added failed old mid new before one.0 alone.0,
        (
          can,
          (
            n,
            record {
              within = slice_get_within ss n s at;
              true = true_more v ss n s at true one.1.0;
              added_are = refl;
              failed_at = λ d. one.1.1.2.1 ∙ ap (λ (x : Slip). Some x) alone.1
                  ∙ ap (λ (x : Slip). Some (moved v x)) (sym (get_or_from_slice_get ss n s d at));
            },
          ),
        ),
      ),
    )
stopped log fault v ss n number s old mid new is_number can at true before (added, failed, one) = absurd one.1.1
