-- How bytes are read for each plan, and what a status says of that.
use Rattle.std.proofs.Common.{◌≡◌, ◌∙◌, ◌+◌, ◌++◌, ◌==◌, ◌&&◌, inl, inr, ℕ, zero, suc, Bool, true, false, not, cond}
use Rattle.std.proofs.Common.{List, [], ◌∷◌, Result, Ok, Err, length, drop, slice_range, slice_index, nat_lt, refl}
use Rattle.std.proofs.Common.{sym, ap, subst, append_assoc, append-nil}
use Rattle.std.specs.Bool.{⊤}
use Rattle.std.specs.Prelude.{IfOk, IfErr, Some, None}
use Rattle.std.proofs.lemmas.Bool.{cases_Bool}
use Rattle.cut_plan.specs.Canonical.{canonical_text}
use Rattle.cut_plan.specs.Plan.{IsPlan}
use Rattle.cut_plan.specs.Values.{Values}
use Rattle.cut_plan.specs.Failing.{version_of}
use Rattle.cut_ledger.specs.declared.slip.Slip.{Slip}
use Rattle.cut_ledger.specs.Slips.{AreGood}
use Rattle.cut_ledger.specs.Tally.{Tally, HasAdded}
use Rattle.cut_journal.specs.declared.fault.JournalFault.{JournalFault}
use Rattle.cut_journal.specs.declared.fault.JournalFault.TheVariants as journal
use Rattle.cut_journal.specs.File.{open_gate, slip_length}
use Rattle.cut_journal.specs.Reading.{is_study, text_length, has_header, says_plan, has_magic, is_slip, slip_in}
use Rattle.cut_journal.specs.Reading.{body_in}
use Rattle.cut_journal.specs.Reading.{then_slips, slips_in, slips_reading, reading}
use Rattle.cut_journal.specs.Unread.{Unread, IsReadNext, IsUnreadable}
use Rattle.cut_status.specs.declared.fault.StatusFault.{StatusFault}
use Rattle.cut_status.specs.declared.fault.StatusFault.TheVariants.{Memory, NoStudy, Damaged, BadSlip}
use Rattle.cut_status.specs.Status.{StatusValue, status_over}
use Rattle.cut_status.specs.Study.{IsStatusOf, IsOfNone, IsDamaged, IsStatusFault}
use Rattle.cut_status.specs.inside.Study.{after_slips, status_fault_of, IsFaultOver, IsOfNoPlan, IsTallyIn}
use Rattle.cut_status.specs.inside.Study.{IsUnderWay}
use Rattle.cut_status.proofs.Headers.{ReadsBack, says_text, same_plan}

-- ---- the slips after a header

-- of slips nothing is said but that one is damaged
abbrev IsOfSlips : Result (List Slip) JournalFault → Type 0
IsOfSlips (Ok slips) = ⊤
IsOfSlips (Err (journal.Damaged number)) = ⊤
IsOfSlips (Err fault) = ⊥

slip_first : (slip : Slip) (later : Result (List Slip) JournalFault) → IsOfSlips later
    → IsOfSlips (then_slips slip later)
slip_first slip (Ok slips) is = tt
slip_first slip (Err fault) is = is

next_slip : (opens whole : Bool) (number : ℕ) (slip : Slip) (later : Result (List Slip) JournalFault) → IsOfSlips later
    → IsOfSlips (cond (not opens) (Ok []) (cond (not whole) (Err (journal.Damaged number)) (then_slips slip later)))
next_slip false whole number slip later is = tt
next_slip true false number slip later is = tt
next_slip true true number slip later is = slip_first slip later is

slips_are : (v : Values) (more number : ℕ) (rest : List ℕ) → IsOfSlips (slips_in v more number rest)
slips_are v zero number rest = tt
slips_are v (suc more) number rest =
    next_slip (slice_index rest 0 == open_gate)
    (nat_lt (slip_length (version_of v.failing)) (length rest) && is_slip v (body_in v rest)) number
    (slip_in (version_of v.failing) (body_in v rest))
    (slips_in v more (number + 1) (drop (slip_length (version_of v.failing)) rest))
    (slips_are v more (number + 1) (drop (slip_length (version_of v.failing)) rest))

-- ---- by the tests of the first bytes

abbrev pub choice : Bool → Bool → Bool → Bool → Result (List Slip) JournalFault → Result (List Slip) JournalFault
choice study header text letters slips =
    cond (not study) (Err journal.NoStudy) (cond (not header) (Err (journal.Damaged 0))
    (cond (not text) (Err journal.OtherPlan) (cond (not letters) (Err (journal.Damaged 0)) slips)))

pub choice_is : (v : Values) (bytes : List ℕ) → reading v bytes
    ≡ choice (is_study bytes) (has_header bytes) (says_plan v bytes) (has_magic v bytes) (slips_reading v bytes)
unfolding reading
choice_is v bytes = refl

damaged_choice : (study header text letters : Bool) (slips : Result (List Slip) JournalFault) → study ≡ true → header
    ≡ false → choice study header text letters slips ≡ Err (journal.Damaged 0)
damaged_choice true false text letters slips some none = refl
damaged_choice true true text letters slips some none = absurd (cc)
damaged_choice false header text letters slips some none = absurd (cc)

other_choice : (study header text letters : Bool) (slips : Result (List Slip) JournalFault) → study ≡ true → header
    ≡ true → text ≡ false → choice study header text letters slips ≡ Err journal.OtherPlan
other_choice true true false letters slips some whole none = refl
other_choice true true true letters slips some whole none = absurd (cc)
other_choice true false text letters slips some whole none = absurd (cc)
other_choice false header text letters slips some whole none = absurd (cc)

own_choice : (study header text letters : Bool) (slips : Result (List Slip) JournalFault) → study ≡ true → text ≡ true
    → IsOfSlips slips → IsOfSlips (choice study header text letters slips)
own_choice true true true true slips some says is = is
own_choice true true true false slips some says is = tt
own_choice true false text letters slips some says is = tt
own_choice true true false letters slips some says is = absurd (cc)
own_choice false header text letters slips some says is = absurd (cc)

-- a study whose header says the text of the plan
own_reading : (v : Values) (bytes : List ℕ) → is_study bytes ≡ true → says_plan v bytes ≡ true
    → IsOfSlips (reading v bytes)
unfolding slips_reading
own_reading v bytes some says =
    subst IsOfSlips (sym (choice_is v bytes))
    (own_choice (is_study bytes) (has_header bytes) (says_plan v bytes) (has_magic v bytes) (slips_reading v bytes)
    some says (slips_are v (length bytes) 1 (drop (length (canonical_text v) + 45) bytes)))

-- any study
of_none : (v : Values) (bytes : List ℕ) → is_study bytes ≡ true
    → (has_header bytes ≡ true → says_plan v bytes ≡ true → IsOfNone (reading v bytes)) → IsOfNone (reading v bytes)
of_none v bytes some own =
    elim (cases_Bool (has_header bytes)) [
      | inl whole ↦ elim (cases_Bool (says_plan v bytes)) [
        | inl says ↦ own whole says
        | inr other ↦ inr (choice_is v bytes ∙ other_choice (is_study bytes) (has_header bytes) (says_plan v bytes)
            (has_magic v bytes) (slips_reading v bytes) some whole other)
      ]
      | inr broken ↦ inl (choice_is v bytes ∙ damaged_choice (is_study bytes) (has_header bytes) (says_plan v bytes)
          (has_magic v bytes) (slips_reading v bytes) some broken)
    ]

-- ---- what is damaged

pub no_header : (bytes : List ℕ) → is_study bytes ≡ true → has_header bytes ≡ false → IsDamaged bytes 0
no_header bytes some broken = (
  some,
  λ v plan. of_none v bytes some (λ whole says. absurd (cc)),
)

pub no_plan : (bytes : List ℕ) (e : StatusFault) → is_study bytes ≡ true
    → IsOfNoPlan (slice_range bytes 13 (text_length bytes + 13)) e → IsStatusFault bytes e
no_plan bytes Memory some is = tt
no_plan bytes (Damaged number) some is =
    subst (λ (n : ℕ). IsDamaged bytes n) (sym is.0)
    (some, λ v plan. of_none v bytes some (λ whole says. absurd (is.1 v plan (says_text v bytes says))))
no_plan bytes NoStudy some is = absurd is
no_plan bytes (BadSlip number) some is = absurd is

damaged : ReadsBack → (v : Values) (bytes : List ℕ) (n : ℕ) → is_study bytes ≡ true → IsPlan v
    → says_plan v bytes ≡ true → reading v bytes ≡ Err (journal.Damaged n) → IsDamaged bytes n
damaged back v bytes zero some plan says is = (
  some,
  λ w other. of_none w bytes some (λ _ too.
      inl (ap (λ (x : Values). reading x bytes) (sym (same_plan back v w bytes plan other says too)) ∙ is)),
)
damaged back v bytes (suc n) some plan says is = (v, (plan, is))

-- the fault of a journal of the plan that the header says
pub unreadable : ReadsBack → (v : Values) (bytes : List ℕ) (e : JournalFault) → is_study bytes ≡ true → IsPlan v
    → says_plan v bytes ≡ true → IsUnreadable v bytes e → IsStatusFault bytes (status_fault_of e)
unreadable back v bytes journal.Memory some plan says is = tt
unreadable back v bytes journal.Disk some plan says is = absurd (subst IsOfSlips is (own_reading v bytes some says))
unreadable back v bytes journal.NoStudy some plan says is = absurd (subst IsOfSlips is (own_reading v bytes some says))
unreadable back v bytes journal.OtherPlan some plan says is = absurd
    (subst IsOfSlips is (own_reading v bytes some says))
unreadable back v bytes (journal.Damaged n) some plan says is = damaged back v bytes n some plan says is
unreadable back v bytes journal.Broken some plan says is = absurd (subst IsOfSlips is (own_reading v bytes some says))
unreadable back v bytes journal.Held some plan says is = absurd (subst IsOfSlips is (own_reading v bytes some says))

-- ---- slips that are read and added one after another

after_none : (later : Result (List Slip) JournalFault) → later ≡ after_slips [] later
after_none (Ok slips) = refl
after_none (Err fault) = refl

after_more : (before : List Slip) (slip : Slip) (later : Result (List Slip) JournalFault)
    → after_slips before (then_slips slip later) ≡ after_slips (before ++ slip ∷ []) later
after_more before slip (Ok slips) = ap (λ (l : List Slip). Ok l) (sym (append_assoc before (slip ∷ []) slips))
after_more before slip (Err fault) = refl

pub under_way : (v : Values) (bytes : List ℕ) (tally : Tally) (unread : Unread) → unread.slips ≡ reading v bytes
    → tally.plan ≡ v → HasAdded tally [] → IsUnderWay v bytes tally unread
under_way v bytes tally unread is plan added = record {
  plan = plan;
  before = [];
  added = added;
  read = sym is ∙ after_none unread.slips;
}

pub further : (v : Values) (bytes : List ℕ) (tally new : Tally) (unread later : Unread) (slip : Slip)
    → IsUnderWay v bytes tally unread → IsReadNext (Ok (Some slip)) unread later → new.plan ≡ tally.plan
    → ((before : List Slip) → HasAdded tally before → HasAdded new (before ++ slip ∷ []))
    → IsUnderWay v bytes new later
further v bytes tally new unread later slip is next plan added = record {
  plan = plan ∙ is.plan;
  before = is.before ++ slip ∷ [];
  added = added is.before is.added;
  read = is.read ∙ ap (after_slips is.before) next.0 ∙ after_more is.before slip later.slips;
}

pub all_read : (v : Values) (bytes : List ℕ) (tally : Tally) (unread later : Unread) → IsUnderWay v bytes tally unread
    → IsReadNext (Ok None) unread later → IsTallyIn v bytes tally
all_read v bytes tally unread later is next = record {
  plan = is.plan;
  slips = is.before;
  read = is.read ∙ ap (after_slips is.before) next.0 ∙ ap (λ (l : List Slip). Ok l) (append-nil is.before);
  added = is.added;
}

unreadable_by : (v : Values) (bytes : List ℕ) (fault : JournalFault) → reading v bytes ≡ Err fault
    → IsUnreadable v bytes fault
unreadable_by v bytes journal.Memory is = tt
unreadable_by v bytes journal.Disk is = is
unreadable_by v bytes journal.NoStudy is = is
unreadable_by v bytes journal.OtherPlan is = is
unreadable_by v bytes (journal.Damaged n) is = is
unreadable_by v bytes journal.Broken is = is
unreadable_by v bytes journal.Held is = is

pub not_read : (v : Values) (bytes : List ℕ) (tally : Tally) (unread later : Unread) (fault : JournalFault)
    → IsUnderWay v bytes tally unread → IsReadNext (Err fault) unread later → IsUnreadable v bytes fault
not_read v bytes tally unread later fault is next =
    unreadable_by v bytes fault (is.read ∙ ap (after_slips is.before) next.0)

-- ---- the status of a tally

pub tally_study : (r : Result StatusValue StatusFault) (bytes : List ℕ) (v : Values) (tally : Tally) → IsPlan v
    → IsTallyIn v bytes tally → IfOk r (λ s. (ss : List Slip) → HasAdded tally ss → AreGood tally.plan ss
    × (s ≡ status_over tally.plan ss)) → IfOk r (IsStatusOf bytes)
tally_study (Ok s) bytes v tally plan in' ok =
    let over = rw in'.plan at (ok in'.slips in'.added) in
    record {
      plan = v;
      slips = in'.slips;
      study = record { plan = plan; read = in'.read };
      good = over.0;
      is = over.1;
    }
tally_study (Err e) bytes v tally plan in' ok = tt

pub tally_fault : (r : Result StatusValue StatusFault) (bytes : List ℕ) (v : Values) (tally : Tally) → IsPlan v
    → IsTallyIn v bytes tally → IfErr r (λ e. (ss : List Slip) → HasAdded tally ss
    → IsFaultOver tally.plan ss e) → IfErr r (IsStatusFault bytes)
tally_fault (Ok s) bytes v tally plan in' err = tt
tally_fault (Err Memory) bytes v tally plan in' err = tt
tally_fault (Err NoStudy) bytes v tally plan in' err = absurd (err in'.slips in'.added)
tally_fault (Err (Damaged n)) bytes v tally plan in' err = absurd (err in'.slips in'.added)
tally_fault (Err (BadSlip n)) bytes v tally plan in' err = record {
  plan = v;
  slips = in'.slips;
  study = record { plan = plan; read = in'.read };
  bad = rw in'.plan at (err in'.slips in'.added);
}
