-- The disks that runs leave.
use Rattle.std.proofs.Common.{◌≡◌, ◌∙◌, ◌++◌, ℕ, Bool, true, false, List, [], ◌∷◌, Option, Some, None, Result, Ok, Err, refl, sym, ap}
use Rattle.std.proofs.Common.{IfSome, IsOk, IsErrOf, All, is_some, cond, append-nil, length, subst, arith}
use Rattle.std.specs.Prelude.{IfErr, IfOk, OnOk, Vec}
use Rattle.std.proofs.lemmas.List.{take_all}
use Rattle.cut_plan.specs.Plan.{IsPlan}
use Rattle.cut_plan.specs.Values.{Values}
use Rattle.cut_disks.specs.State.{DiskState}
use Rattle.cut_disks.specs.Log.{DiskLog, IsKnown, is_known, on}
use Rattle.cut_ledger.specs.declared.slip.Slip.{Slip}
use Rattle.cut_ledger.specs.Contents.{is_complete}
use Rattle.cut_ledger.specs.Machine.{StudyState}
use Rattle.cut_journal.specs.Journal.{JournalValue, IsFileOf, kept_slips}
use Rattle.cut_journal.specs.Laws.{IsJournalOf}
use Rattle.cut_journal.specs.Reading.{reading}
use Rattle.cut_book.specs.declared.call.Call.{Call}
use Rattle.cut_book.specs.Book.{BookValue, failed_since, failures_of, opening_of}
use Rattle.cut_book.specs.History.{Opening, LeadsTo, accepted_slips, opened_by}
use Rattle.cut_book.specs.Kept.{IsLeftWith, StudiesTakeTheirOwn, TakesOwn, disk_start_of}
use Rattle.cut_book.specs.Kept.{doubtful_in, is_known_in}
use Rattle.cut_slots.specs.Report.{SlotEnd}
use Rattle.cut_slots.specs.declared.not_closed.NotClosed.{NotClosed}
use Rattle.cut_slots.specs.Start.{IsLeftOf, StudyStart, start_of}
use Rattle.cut_hall.specs.Closing.{IsStudyEnd}
use Rattle.cut_wires.specs.declared.rows.RowsFault.{RowsFault}
use Rattle.cut_slots.specs.declared.next_row_fault.NextRowFault.{NextRowFault}
use Rattle.cut_pool.specs.declared.run_fault.RunFault.{RunFault}
use Rattle.cut_pool.specs.declared.run_fault.RunFault.TheVariants.{BadSlip, Checkpoint, Write, WorkMemory}
use Rattle.cut_pool.specs.declared.run_fault.RunFault.TheVariants.{AuditMismatch}
use Rattle.cut_pool.specs.declared.study_run.Done.{Done}
use Rattle.cut_pool.specs.Leaving.{KeepsSlips, LeavesDisk}
use Rattle.cut_pool.specs.Running.{slips_of}
use Rattle.cut_pool.specs.inside.Conclusion.{Concludes, IsNotBegun}
use Rattle.cut_pool.specs.inside.Faults.{closed_as}
use Rattle.cut_pool.specs.inside.Leaving.{IsDiskOf, LeavesBegun, journal_in}

-- ---- a hall that was closed

-- what holds of the report of a hall that was closed holds of the one that is handed on
pub carried : {A E F : Type 0} (P : A → Type 0) (closed : Result A E) (now : Result A F)
    → IfOk now (λ report. closed ≡ Ok report) → IfOk closed P → IfOk now P
carried P closed (Ok report) same is = subst (λ (c : Result _ _). IfOk c P) same is
carried P closed (Err fault) same is = tt

pub end_as : {D E F : Type 0} (log_of : D → DiskLog) (start : Option StudyStart) (closed : Result (List SlotEnd) E)
    (now : Result (List SlotEnd) F) (is_broken : Bool) (left : Option (JournalValue D))
    → IfOk now (λ report. closed ≡ Ok report) → IsStudyEnd log_of start closed is_broken left
    → IsStudyEnd log_of start now is_broken left
end_as log_of None closed now is_broken left same end = tt
end_as log_of (Some s) closed now is_broken left same end =
    (end.0, (end.1.0, carried (λ (slots : List SlotEnd). slots ≡ end.0 ∷ []) closed now same end.1.1))

pub as_closed : {T : Type 0} (closed : Result (List SlotEnd) (NotClosed T))
    → IfOk (closed_as closed) (λ report. closed ≡ Ok report)
as_closed (Ok report) = refl
as_closed (Err not_closed) = tt

-- what a book that was opened says is said of the one that is handed on
pub opened_as : {B E F P Q : Type 0} (book : Result B E) (now : Result B F) (f : E → F)
    → IfOk book (λ b. now ≡ Ok b) → IfErr book (λ e. now ≡ Err (f e)) → (P → Q) → OnOk book P → OnOk now Q
opened_as (Ok b) now f ok err so is = rw ok (so is)
opened_as (Err e) now f ok err so is = rw err tt

-- the only slot's study is complete where the run is done
complete_slot : (slot : SlotEnd) (report : List SlotEnd) → report ≡ slot ∷ []
    → All (λ (s : SlotEnd). s.complete ≡ true) report → slot.complete ≡ true
complete_slot slot report is all = (subst (λ (l : List SlotEnd). All (λ (s : SlotEnd). s.complete ≡ true) l) is all) 0 slot
    (omega arith)

module _ {D : Type 0} (log_of : D → DiskLog) (b : BookValue D) (sent : Result ℕ (RowsFault NextRowFault))
    (closed : Result (List SlotEnd) RunFault) (is_broken : Bool) (left : Option (JournalValue D)) where
  whole_at : (slot : SlotEnd) (is : IsLeftOf log_of (start_of log_of b) slot is_broken left)
      → IfOk closed (λ slots. slots ≡ slot ∷ []) → (ended : Result Done RunFault)
      → Concludes sent closed is_broken ended → IsOk ended → is_complete is.state.ledger ≡ true
  whole_at slot is report (Ok d) concludes ok =
      let same : d.report ≡ slot ∷ [] =
      subst (λ (c : Result (List SlotEnd) RunFault). IfOk c (λ slots. slots ≡ slot ∷ [])) concludes.1 report in
      sym is.complete ∙ complete_slot slot d.report same concludes.2
  whole_at slot is report (Err fault) concludes ok = absurd (let no : ⊥ = cc in no)

  cause_at : (ended : Result Done RunFault) → Concludes sent closed is_broken ended → IsErrOf ended Checkpoint
      → is_broken ≡ true
  cause_at (Ok d) concludes is = absurd (let no : ⊥ = cc in no)
  cause_at (Err Checkpoint) concludes is = concludes.1
  cause_at (Err (Write fault)) concludes is = absurd (let no : ⊥ = cc in no)
  cause_at (Err (BadSlip number)) concludes is = absurd concludes
  cause_at (Err WorkMemory) concludes is = absurd (let no : ⊥ = cc in no)
  cause_at (Err AuditMismatch) concludes is = absurd (let no : ⊥ = cc in no)

  pub left_begun : (ended : Result Done RunFault) (disk : Option D)
      → IsStudyEnd log_of (Some (start_of log_of b)) closed is_broken left → Concludes sent closed is_broken ended
      → IsDiskOf log_of left disk → LeavesBegun log_of b ended disk
  left_begun ended disk end concludes is = record {
    left = left;
    leaves = record {
      calls = end.1.0.calls;
      state = end.1.0.state;
      leads = end.1.0.leads;
      journal = end.1.0.journal;
      whole = whole_at end.0 end.1.0 end.1.1 ended concludes;
      cause = λ at. sym end.1.0.broken ∙ cause_at ended concludes at;
    };
    disk_is = is;
  }

  -- an append fails only of a study with a journal
  pub broken_has : IsStudyEnd log_of (Some (start_of log_of b)) closed is_broken left → is_broken ≡ true
      → b.state.has_journal ≡ true
  broken_has end broken =
      let own : IsLeftWith log_of (opening_of b) (disk_start_of log_of b) end.1.0.state left = end.1.0.journal in
      own.has ∙ some left (sym (ap is_some own.doubt) ∙ sym own.broken ∙ sym end.1.0.broken ∙ broken)
    where
      some : (journal : Option (JournalValue D)) → is_some (doubtful_in journal) ≡ true → is_some journal ≡ true
      some None e = absurd (let no : ⊥ = cc in no)
      some (Some log) e = refl

-- a book of which nothing was asked
module _ {D : Type 0} (log_of : D → DiskLog) where
  pub left_unrun : (b : BookValue D) (left : Option (JournalValue D)) (disk : Option D)
      → LeadsTo (opened_by (opening_of b)) b.calls b.state
      → IsLeftWith log_of (opening_of b) (disk_start_of log_of b) b.state left → IsDiskOf log_of left disk
      → LeavesBegun log_of b (Err WorkMemory) disk
  left_unrun b left disk leads journal is = record {
    left = left;
    leaves = record {
      calls = b.calls;
      state = b.state;
      leads = leads;
      journal = journal;
      whole = λ ok. absurd (let no : ⊥ = cc in no);
      cause = λ at. absurd (let no : ⊥ = cc in no);
    };
    disk_is = is;
  }

  -- ---- the disk

  -- the file of a journal whose slips are these
  keeps : (v : Values) (slips added : List Slip) (doubtful : Option Slip) (log : JournalValue D) (d : DiskState)
      → log.plan ≡ v → log.doubtful ≡ doubtful → kept_slips log.plan log.count d ≡ slips ++ added
      → IsFileOf log.plan log.count log.doubtful d → KeepsSlips v slips added doubtful d
  keeps v slips added doubtful log d plan doubt kept file = record {
    bytes = rw (← plan, ← doubt, ← kept) file.bytes;
    images = λ image is. rw (← plan, ← doubt, ← kept) (file.images image is);
    durable = λ none. file.durable (doubt ∙ none);
  }

  -- that of a journal which was not used
  pub left_over : {A : Type 0} (v : Values) (kept : Option (JournalValue D × Vec Slip A)) (fault : RunFault)
      (journal : Option (JournalValue D)) (disk : Option D)
      → IfSome kept (λ k. (k.0.plan ≡ v) × (k.0.count ≡ length k.1.items) × (k.0.doubtful ≡ None))
      → IfSome kept (λ k. IsKnown (log_of k.0.disk) → reading v (on (log_of k.0.disk)).bytes ≡ Ok k.1.items)
      → journal ≡ journal_in kept → IsNotBegun v (slips_of kept) fault → IsDiskOf log_of journal disk
      → LeavesDisk log_of v kept (Err fault) disk
  left_over v None fault journal None of read same why is = refl
  left_over v None fault journal (Some disk) of read same why is = absurd (rw same at is)
  left_over v (Some k) fault journal None of read same why is = absurd (rw same at is)
  left_over v (Some k) fault journal (Some disk) of read same why is =
      let file = rw same at is in
      let begun : IsErrOf {T = Done} (Err fault) Checkpoint → ⊥ = none fault why in
      record {
        added = [];
        doubtful = None;
        own = record { each = tt; once = λ t. omega arith };
        all = λ ok. absurd (let no : ⊥ = cc in no);
        cause = λ at. absurd (begun at);
        untouched = λ number at. ap log_of file.0;
        known = ap (λ (d : D). is_known (log_of d)) file.0;
        failures = ap (λ (d : D). (log_of d).failed) file.0;
        keeps = λ good. rw file.0 (keeps v k.1.items [] None k.0 (on (log_of k.0.disk)) of.0 of.2
            (kept_whole good) (file.1 good));
      }
    where
      none : (fault : RunFault) → IsNotBegun v (slips_of (Some k)) fault → IsErrOf {T = Done} (Err fault) Checkpoint → ⊥
      none WorkMemory why at = cc
      none (BadSlip number) why at = cc
      none Checkpoint why at = why
      none (Write sent) why at = why
      none AuditMismatch why at = why

      kept_whole : IsKnown (log_of k.0.disk) → kept_slips k.0.plan k.0.count (on (log_of k.0.disk)) ≡ k.1.items ++ []
      kept_whole good = rw (of.0, of.1, read good) (take_all _ k.1.items (omega arith) ∙ sym (append-nil k.1.items))

  -- the slips that a journal of known bytes keeps
  kept_by : (o : Opening) (calls : List Call) (s : StudyState) (log : JournalValue D) (d : DiskState)
      → TakesOwn o calls s → o.has_journal ≡ true → IsJournalOf log.plan log.count log.doubtful d s
      → kept_slips log.plan log.count d ≡ o.base ++ accepted_slips calls
  kept_by o calls s log d own has is = sym is.kept ∙ own.kept ∙ ap (λ (b : Bool). cond b (o.base ++ accepted_slips calls) o.base) has

  pub left_run : {A : Type 0} (v : Values) (kept : Option (JournalValue D × Vec Slip A)) (b : BookValue D)
      (ended : Result Done RunFault) (disk : Option D) → StudiesTakeTheirOwn → IsPlan v
      → b.state.ledger.plan ≡ v → b.state.ledger.base ≡ slips_of kept → b.state.has_journal ≡ is_some kept
      → b.journal ≡ journal_in kept → b.failed ≡ failures_of log_of (journal_in kept)
      → ((number : ℕ) → ended ≡ Err (BadSlip number) → ⊥)
      → LeavesBegun log_of b ended disk → LeavesDisk log_of v kept ended disk
  left_run v kept b ended disk laws plan of base has journal failed fine begun =
      by kept begun.left disk base has journal failed begun.leaves.journal begun.disk_is
    where
      o : Opening
      o = opening_of b

      s : StudyState
      s = begun.leaves.state

      own : TakesOwn o begun.leaves.calls s
      own = laws o begun.leaves.calls s (rw of plan) begun.leaves.leads

      by : {A : Type 0} (kept : Option (JournalValue D × Vec Slip A)) (left : Option (JournalValue D)) (disk : Option D)
          → b.state.ledger.base ≡ slips_of kept → b.state.has_journal ≡ is_some kept → b.journal ≡ journal_in kept
          → b.failed ≡ failures_of log_of (journal_in kept) → IsLeftWith log_of o (disk_start_of log_of b) s left
          → IsDiskOf log_of left disk → LeavesDisk log_of v kept ended disk
      by None None None base has journal failed with' is = refl
      by None None (Some disk) base has journal failed with' is = absurd is
      by None (Some log) disk base has journal failed with' is =
          absurd (let no : false ≡ true = sym has ∙ with'.has in let none : ⊥ = cc in none)
      by (Some k) None disk base has journal failed with' is =
          absurd (let no : true ≡ false = sym has ∙ with'.has in let none : ⊥ = cc in none)
      by (Some k) (Some log) None base has journal failed with' is = absurd is
      by (Some k) (Some log) (Some disk) base has journal failed with' is =
          let known : is_known (log_of log.disk) ≡ is_known (log_of k.0.disk) =
          with'.known ∙ ap (is_known_in log_of) journal in
          let keeps_all : IsKnown (log_of k.0.disk)
          → KeepsSlips v k.1.items (accepted_slips begun.leaves.calls) s.doubtful (on (log_of log.disk)) = λ good.
          (let here : IsKnown (log_of log.disk) = known ∙ good in
          keeps v k.1.items (accepted_slips begun.leaves.calls) s.doubtful log (on (log_of log.disk))
          (with'.of_plan ∙ of) (sym with'.doubt)
          (kept_by o begun.leaves.calls s log (on (log_of log.disk)) own has (with'.follows here)
          ∙ ap (λ (l : List Slip). l ++ accepted_slips begun.leaves.calls) base) (is.1 here)) in
          record {
            added = accepted_slips begun.leaves.calls;
            doubtful = s.doubtful;
            own = rw (← of, ← base) own.own;
            all = λ ok. rw (← of, ← base) (own.all (begun.leaves.whole ok));
            cause = λ at. sym with'.broken ∙ begun.leaves.cause at;
            untouched = λ number at. absurd (fine number at);
            known = ap (λ (d : D). is_known (log_of d)) is.0 ∙ known;
            failures = ap (λ (d : D). (log_of d).failed) is.0 ∙ with'.failures
                ∙ ap (λ (n : ℕ). failed_since s.broken n) failed
                ∙ ap (λ (x : Bool). failed_since x (log_of k.0.disk).failed) with'.broken;
            keeps = λ good. rw is.0 (keeps_all good);
          }
