-- What is left of a disk on which a study is made, and slips are written one after another.
use Rattle.std.proofs.Common.{◌≡◌, ◌∙◌, ◌++◌, inl, inr, ℕ, List, [], ◌∷◌, Option, Some, None, Ok, Err}
use Rattle.std.proofs.Common.{Result}
use Rattle.std.proofs.Common.{take, drop, refl, sym, ap, subst, arith, append-nil, append_assoc}
use Rattle.std.proofs.lemmas.List.{take-append-drop, take_all}
use Rattle.cut_plan.specs.Values.{Values}
use Rattle.cut_disks.specs.State.{DiskState, Throughout, synced}
use Rattle.cut_disks.specs.Log.{DiskLog, Goes, Knows, on}
use Rattle.cut_ledger.specs.declared.slip.Slip.{Slip}
use Rattle.cut_journal.specs.declared.fault.JournalFault.TheVariants as journal
use Rattle.cut_journal.specs.declared.store_fault.StoreFault.{StoreFault}
use Rattle.cut_journal.specs.declared.store_fault.StoreFault.TheVariants as store
use Rattle.cut_journal.specs.Adding.{Adds, StopsAt, doubtful_after, failures_after}
use Rattle.cut_journal.specs.Journal.{AppendsEach, IsFileOf, JournalValue, ReadsAs, kept_slips}
use Rattle.cut_journal.specs.Opening.{IsBegunFile, IsClaimed, IsNewStudy}
use Rattle.cut_journal.specs.Reading.{reading}
use Rattle.cut_journal.proofs.Moments.{and_then, weaker}
use Rattle.cut_commands.specs.NewStudy.{HasAll, HasPart, IsBegun, IsFilled, IsNewJournal, SaysFirstOf}

-- ---- first slips

abbrev pub AreFirst : List Slip → List Slip → Type 0
AreFirst all some = (rest : List Slip) × (all ≡ some ++ rest)

-- and after them comes the doubtful one, where there is one
abbrev pub GoesOn : List Slip → List Slip → Option Slip → Type 0
GoesOn all some doubtful = (slip : Slip) → doubtful ≡ Some slip → AreFirst all (some ++ slip ∷ [])

shorter : (all xs ys : List Slip) → AreFirst all (xs ++ ys) → AreFirst all xs
shorter all xs ys first = (ys ++ first.0, first.1 ∙ append_assoc xs ys first.0)

pub taken_first : (all : List Slip) (n : ℕ) → AreFirst all (take n all)
taken_first all n = (drop n all, sym (take-append-drop n all))

pub none_next : (all some : List Slip) (doubtful : Option Slip) → doubtful ≡ None → GoesOn all some doubtful
none_next all some doubtful none slip is = absurd (let both : None ≡ Some slip = sym none ∙ is in cc)

pub next_is : (x slip : Slip) → Some x ≡ Some slip → x ≡ slip
next_is x slip is = cc

pub reads_first : (v : Values) (all kept : List Slip) (doubtful : Option Slip) → AreFirst all kept
    → GoesOn all kept doubtful → (bytes : List ℕ) → ReadsAs v kept doubtful bytes → SaysFirstOf v all bytes
reads_first v all kept doubtful first next bytes (inl reads) = inr (kept, (first.0, (first.1, reads)))
reads_first v all kept doubtful first next bytes (inr (slip, both)) =
    grind arith

-- ---- the moments of some appends

pub appends_first : (v : Values) (all kept : List Slip) (doubtful : Option Slip) (xs : List Slip) (old new : DiskState)
    → AreFirst all (kept ++ xs) → GoesOn all (kept ++ xs) doubtful → AppendsEach v kept doubtful xs old new
    → Throughout old new (SaysFirstOf v all)
appends_first v all kept doubtful [] old new first next moments =
    grind (arith, weaker, append-nil)
appends_first v all kept doubtful (x ∷ xs) old new first next moments =
    let mid : DiskState = moments.0 in
    let same : (kept ++ x ∷ []) ++ xs ≡ kept ++ x ∷ xs = append_assoc kept (x ∷ []) xs in
    let first_of : AreFirst all ((kept ++ x ∷ []) ++ xs) = subst (λ (l : List Slip). AreFirst all l) (sym same) first in
    and_then (SaysFirstOf v all) old mid new
    (weaker (ReadsAs v kept (Some x)) (SaysFirstOf v all)
    (reads_first v all kept (Some x) (shorter all kept (x ∷ xs) first)
    (λ slip is. subst (λ (s : Slip). AreFirst all (kept ++ s ∷ [])) (next_is x slip is)
    (shorter all (kept ++ x ∷ []) xs first_of))) old mid moments.1.0)
    (appends_first v all (kept ++ x ∷ []) doubtful xs mid new first_of
    (subst (λ (l : List Slip). GoesOn all l doubtful) (sym same) next) moments.1.1)

-- ---- slips that were appended to a journal that had none

pub has_part : {D : Type 0} (v : Values) (all xs : List Slip) (old new : JournalValue D) (before after : DiskState)
    → IsNewJournal v old → new.plan ≡ old.plan → AreFirst all xs → GoesOn all xs new.doubtful
    → AppendsEach old.plan (kept_slips old.plan old.count before) new.doubtful xs before after
    → kept_slips new.plan new.count after ≡ kept_slips old.plan old.count before ++ xs
    → IsFileOf new.plan new.count new.doubtful after
    → HasPart v all before after
has_part v all xs old new before after is plan first next moments kept file =
    grind (arith, appends_first v all, reads_first v all)

pub has_all : {D : Type 0} (v : Values) (xs : List Slip) (old new : JournalValue D) (before after : DiskState)
    → IsNewJournal v old → new.plan ≡ old.plan → new.doubtful ≡ None
    → AppendsEach old.plan (kept_slips old.plan old.count before) new.doubtful xs before after
    → kept_slips new.plan new.count after ≡ kept_slips old.plan old.count before ++ xs
    → IsFileOf new.plan new.count new.doubtful after
    → HasAll v xs before after
has_all v xs old new before after is plan whole moments kept file = record {
  part = has_part v xs xs old new before after is plan ([], sym (append-nil xs)) (none_next xs xs new.doubtful whole)
      moments kept file;
  all = grind (arith, take_all);
}

-- slips that are added to such a journal go on, where the disk failed at one
next_after : (all some : List Slip) (failed before : Option Slip) → before ≡ None → GoesOn all some failed
    → GoesOn all some (doubtful_after failed before)
next_after all some None before none next = none_next all some before none
next_after all some (Some slip) before none next = next

module _ {D : Type 0} (log : D → DiskLog) (v : Values) (old new : JournalValue D) (is : IsNewJournal v old)
    (file : Knows (log new.disk) (IsFileOf new.plan new.count new.doubtful)) where
  pub goes_all : (xs : List Slip) → Adds log xs None old new → Goes (λ n. n) (HasAll v xs) (log old.disk) (log new.disk)
  goes_all xs adds = record {
    known = adds.disk.known;
    state = λ known. (let one = adds.disk.state known in
        has_all v xs old new (on (log old.disk)) (on (log new.disk)) is adds.plan (adds.doubtful ∙ is.whole) one.moments
        one.kept (file (adds.disk.known ∙ known)));
    faults = adds.disk.faults;
  }

  pub goes_part : (all xs : List Slip) (failed : Option Slip) → AreFirst all xs → GoesOn all xs failed
      → Adds log xs failed old new → Goes (failures_after failed) (HasPart v all) (log old.disk) (log new.disk)
  goes_part all xs failed first next adds = record {
    known = adds.disk.known;
    state = λ known. (let one = adds.disk.state known in
        has_part v all xs old new (on (log old.disk)) (on (log new.disk)) is adds.plan first
        (subst (λ (o : Option Slip). GoesOn all xs o) (sym adds.doubtful)
        (next_after all xs failed old.doubtful is.whole next)) one.moments one.kept (file (adds.disk.known ∙ known)));
    faults = adds.disk.faults;
  }

-- how the adding of some slips ends says which were added first, and which one comes next
pub first_added : {T : Type 0} (result : Result T StoreFault) (all : List Slip) (doubtful : Option Slip)
    (added : List Slip) (failed : Option Slip) → StopsAt result all doubtful added failed
    → AreFirst all added × GoesOn all added failed
first_added (Ok done) all doubtful added failed is =
    (([], sym is.0 ∙ sym (append-nil added)), none_next all added failed is.1)
first_added (Err store.Broken) all doubtful added failed is =
    ((all, ap (λ (xs : List Slip). xs ++ all) (sym is.2.0)), none_next all added failed is.2.1)
first_added (Err store.Disk) all doubtful added failed is = (
  (is.0 ∷ is.1, is.2.0),
  λ slip same. (
    is.1,
    is.2.0 ∙ ap (λ (x : Slip). added ++ x ∷ is.1) (next_is is.0 slip (sym is.2.1 ∙ same))
        ∙ sym (append_assoc added (slip ∷ []) is.1),
  ),
)
first_added (Err fault) all doubtful added failed is = absurd is

-- ---- a journal that was made on an unclaimed disk

new_study : (v : Values) (all : List Slip) (bytes : List ℕ) → IsNewStudy v bytes → SaysFirstOf v all bytes
new_study v all bytes (inl none) = inl none
new_study v all bytes (inr empty) = inr ([], (all, (refl, empty)))

pub since_made : (v : Values) (all : List Slip) (old new : DiskState) → reading v old.bytes ≡ Err journal.NoStudy
    → reading v new.bytes ≡ Ok [] → IsBegunFile v old new → Throughout (synced old) new (SaysFirstOf v all)
since_made v all old new free empty (inl same) =
    grind arith
since_made v all old new free empty (inr moments) =
    weaker (IsNewStudy v) (SaysFirstOf v all) (new_study v all) (synced old) new moments

pub begun : (v : Values) (all : List Slip) (old mid new : DiskState) → IsClaimed v old mid → HasPart v all mid new
    → IsBegun v all old new
begun v all old mid new claimed part = record {
  free = claimed.0;
  bytes = part.bytes;
  moments = and_then (SaysFirstOf v all) (synced old) mid new
      (since_made v all old mid claimed.1.none claimed.1.made claimed.1.begun) part.moments;
}

pub goes_begun : (count : ℕ → ℕ) (v : Values) (all : List Slip) (old mid new : DiskLog)
    → Goes (λ n. n) (IsClaimed v) old mid → Goes count (HasPart v all) mid new → Goes count (IsBegun v all) old new
goes_begun count v all old mid new first next = record {
  known = next.known ∙ first.known;
  state = λ known. begun v all (on old) (on mid) (on new) (first.state known) (next.state (first.known ∙ known));
  faults = next.faults ∙ ap count first.faults;
}

pub goes_filled : (v : Values) (all : List Slip) (old mid new : DiskLog)
    → Goes (λ n. n) (IsClaimed v) old mid → Goes (λ n. n) (HasAll v all) mid new → Goes (λ n. n) (IsFilled v all) old new
goes_filled v all old mid new first next = record {
  known = next.known ∙ first.known;
  state = λ known. (let has = next.state (first.known ∙ known) in record {
    begun = begun v all (on old) (on mid) (on new) (first.state known) has.part;
    all = has.all;
  });
  faults = next.faults ∙ first.faults;
}
