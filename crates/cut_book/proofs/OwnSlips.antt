-- Studies take slips of their own, all of them where every trial is held.
use Rattle.std.proofs.Common.{◌≡◌, ℕ, ◌+◌, ◌<◌, ◌≤◌, ◌||◌, Bool, true, false, cond, refl, sym, ◌∙◌}
use Rattle.std.proofs.Common.{List, [], ◌∷◌, ◌++◌, Option, Some, None, IfSome, is_some, arith, append_assoc, append-nil}
use Rattle.std.proofs.Common.{IsTrue}
use Rattle.std.specs.List.{AllByRecursion}
use Rattle.std.proofs.lemmas.Bool.Decides.{nat_tests}
use Rattle.cut_faults.specs.declared.code.FaultCode.{FaultCode}
use Rattle.cut_lists.proofs.Intervals.{passes_at}
use Rattle.cut_lists.proofs.Ranges.{none_passing}
use Rattle.cut_plan.specs.Cells.{trial_count}
use Rattle.cut_plan.specs.Plan.{IsPlan}
use Rattle.cut_plan.specs.Values.{Values}
use Rattle.cut_plan.proofs.Every.{every-append}
use Rattle.cut_outcome.specs.Computed.{Computed}
use Rattle.cut_outcome.specs.declared.piece.Piece.{Piece}
use Rattle.cut_outcome.specs.Outcome.{one_if}
use Rattle.cut_outcome.specs.Sum.{is_piece}
use Rattle.cut_ledger.specs.declared.event.Event.TheVariants as event
use Rattle.cut_ledger.specs.declared.event.Reply.TheVariants as reply
use Rattle.cut_ledger.specs.declared.slip.Slip.{Slip}
use Rattle.cut_ledger.specs.Contents.{Contents, has, is_complete, is_in, is_in_base, over_base, with_piece}
use Rattle.cut_ledger.specs.Laws.{SamePlansAreEqual}
use Rattle.cut_ledger.specs.Machine.{StudyState, accepted_unless, failed, refused_code, slip_of, some_slip, taken}
use Rattle.cut_ledger.specs.Machine.{unless_refused}
use Rattle.cut_ledger.specs.Refusals.{CanTake}
use Rattle.cut_ledger.specs.World.{HasTrueResult, IsTrueSlip, pieces_of_slips, times_in}
use Rattle.cut_ledger.proofs.CellLemmas.{held_at}
use Rattle.cut_ledger.proofs.Law.{piece_within, times_more}
use Rattle.cut_book.specs.declared.call.Answer.TheVariants.{Accepted, DiskFails}
use Rattle.cut_book.specs.declared.call.Call.{Call}
use Rattle.cut_book.specs.declared.call.Call.TheVariants.{HandIn, Lose, Row}
use Rattle.cut_book.specs.History.{Opening, IsStep, LeadsTo, accepted_slip, accepted_slips, opened_by}
use Rattle.cut_book.specs.Kept.{AreAllOfStudy, AreOfStudy, StudiesTakeTheirOwn, is_missing}
use Rattle.cut_book.proofs.Legal.{kept_by, no_doubt, none_kept}

-- a true slip of a plan, of which a ledger holds no trial
record IsFreeSlip (v : Values) (l : Contents) (slip : Slip) : Type 0 where
  is_true : IsTrueSlip v slip
  free : (t : ℕ) → is_in slip.piece t ≡ true → has l t ≡ false

-- what holds of the parts of a state in which these slips were taken since the opening
record HoldsOf (o : Opening) (own : List Slip) (l : Contents) (with_journal : Bool) (slips : List Slip)
    (doubtful : Option Slip) (is_broken : Bool) : Type 0 where
  plan : l.plan ≡ o.plan
  journal : with_journal ≡ o.has_journal
  each : AllByRecursion (IsTrueSlip o.plan) own
  within : (t : ℕ) → has l t ≡ true → t < trial_count o.plan
  counts : (t : ℕ) → times_in (pieces_of_slips own) t + one_if (has (over_base o.plan o.base) t) ≡ one_if (has l t)
  doubt : IfSome doubtful (IsFreeSlip o.plan l)
  broken : is_broken ≡ is_some doubtful
  kept : slips ≡ cond o.has_journal (o.base ++ own) o.base

abbrev Holds : Opening → List Slip → StudyState → Type 0
Holds o own s = HoldsOf o own s.ledger s.has_journal s.kept s.doubtful s.broken

-- ---- results that are taken

can_take : (o : Opening) (s : StudyState) (r : Computed) → s.ledger.plan ≡ o.plan → CanTake s.ledger r
    → IsTrue (is_piece r.plan r.piece) → IsFreeSlip o.plan s.ledger (slip_of r)
can_take o s r plan free piece = rw (← plan, ← free.plan) (record {
  is_true = record { piece = piece; totals = refl };
  free = (let apart = free.apart in grind (arith, none_passing (has s.ledger) r.piece.first r.piece.count));
})

accepts : SamePlansAreEqual → (o : Opening) (s : StudyState) (r : Computed) → IsPlan o.plan → s.ledger.plan ≡ o.plan
    → HasTrueResult (event.HandIn r) → refused_code s r ≡ None → IsFreeSlip o.plan s.ledger (slip_of r)
accepts equal o s r good plan result none = grind (arith, can_take)

-- a trial is held then where it was, or is one of the piece
held_then : (o : Opening) (own : List Slip) (s : StudyState) (p : Piece) → Holds o own s → IsTrue (is_piece o.plan p)
    → (t : ℕ) → has (with_piece s.ledger p) t ≡ has s.ledger t || is_in p t
held_then o own s p h piece t =
    let low = piece_within o.plan p t piece in
    grind (arith, nat_tests, h.plan, h.within t, low, held_at s.ledger.plan (λ x. has s.ledger x || is_in p x) t)

taken_holds : (o : Opening) (own : List Slip) (s : StudyState) (r : Computed) → Holds o own s
    → IsFreeSlip o.plan s.ledger (slip_of r) → s.broken ≡ false → Holds o (own ++ slip_of r ∷ []) (taken s r)
taken_holds o own s r h f unbroken =
    let piece = f.is_true.piece in
    let next = held_then o own s r.piece h piece in
    record {
      plan = h.plan;
      journal = h.journal;
      each = every-append (IsTrueSlip o.plan) own (slip_of r ∷ []) h.each (f.is_true, tt);
      within = λ t is. grind (arith, is, next t, h.within t, piece_within o.plan r.piece t piece);
      counts = λ t. grind (arith, times_more own (slip_of r) t, next t, h.counts t, f.free t);
      doubt = rw (no_doubt s.doubtful (sym h.broken ∙ unbroken)) tt;
      broken = h.broken;
      kept = rw (h.journal, h.kept) (sym (kept_by o.has_journal o.base own (slip_of r ∷ [])));
    }

-- ---- steps

refused_same : (found : Option FaultCode) (c : FaultCode) (s t : StudyState) → accepted_unless found ≡ reply.Refused c
    → unless_refused found s t ≡ s
refused_same None c s t e = absurd (let no : ⊥ = cc in no)
refused_same (Some x) c s t e = refl

failed_step : SamePlansAreEqual → (o : Opening) (own : List Slip) (s : StudyState) (r : Computed)
    (found : Option FaultCode) → IsPlan o.plan → Holds o own s → HasTrueResult (event.HandIn r)
    → refused_code s r ≡ found → Holds o own (unless_refused found s (failed s r))
failed_step equal o own s r None good h real none = record {
  plan = h.plan;
  journal = h.journal;
  each = h.each;
  within = h.within;
  counts = h.counts;
  doubt = accepts equal o s r good h.plan real none;
  broken = refl;
  kept = h.kept;
}
failed_step equal o own s r (Some code) good h real some = h

step_holds : SamePlansAreEqual → (o : Opening) (own : List Slip) (s t : StudyState) (call : Call) → IsPlan o.plan
    → Holds o own s → IsStep s call t → Holds o (own ++ accepted_slip call) t
step_holds equal o own s t (HandIn slip is_own Accepted) good h is =
    let none : refused_code s is.result ≡ None = grind (arith, is.answered.reply) in
    let unbroken : s.broken ≡ false = grind (arith, none) in
    rw (is.next, none, is.slip_is)
    (taken_holds o own s is.result h (accepts equal o s is.result good h.plan is.true_result none) unbroken)
step_holds equal o own s t (HandIn slip is_own DiskFails) good h is =
    rw (append-nil own, is.next) (failed_step equal o own s is.result _ good h is.true_result refl)
step_holds equal o own s t (HandIn slip is_own refused) good h is =
    rw (append-nil own, is.next ∙ refused_same _ _ s (taken s is.result) is.answered.reply) h
step_holds equal o own s t (Lose piece) good h is = rw (append-nil own, is.1) h
step_holds equal o own s t (Row cell is_given) good h is = rw (append-nil own, is.2) h

leads_hold : SamePlansAreEqual → (o : Opening) (own : List Slip) (s t : StudyState) (calls : List Call) → IsPlan o.plan
    → Holds o own s → LeadsTo s calls t → Holds o (own ++ accepted_slips calls) t
leads_hold equal o own s t [] good h from = rw (append-nil own, ← from) h
leads_hold equal o own s t (call ∷ calls) good h from =
    rw (← append_assoc own (accepted_slip call) (accepted_slips calls))
    (leads_hold equal o (own ++ accepted_slip call) from.0 t calls good
    (step_holds equal o own s from.0 call good h from.1.0) from.1.1)

opened_holds : (o : Opening) → Holds o [] (opened_by o)
opened_holds o = record {
  plan = refl;
  journal = refl;
  each = tt;
  within = λ t is. grind (arith, nat_tests, held_at o.plan (is_in_base o.base) t, is);
  counts = λ t. omega arith;
  doubt = tt;
  broken = refl;
  kept = sym (none_kept o.has_journal o.base);
}

-- ---- what is taken

-- how often a trial is in those that were taken, where it is not held, and where it is
taken_once : (o : Opening) (own : List Slip) (s : StudyState) → Holds o own s → (t : ℕ)
    → times_in (pieces_of_slips own) t ≤ one_if (is_missing o.plan o.base t)
taken_once o own s h t =
    grind (arith, nat_tests, h.within t, h.counts t, held_at o.plan (is_in_base o.base) t)

doubt_once : (o : Opening) (own : List Slip) (s : StudyState) (slip : Slip) → Holds o own s
    → IsFreeSlip o.plan s.ledger slip → (t : ℕ)
    → times_in (pieces_of_slips (own ++ slip ∷ [])) t ≤ one_if (is_missing o.plan o.base t)
doubt_once o own s slip h f t =
    let once = taken_once o own s h t in
    let low = piece_within o.plan slip.piece t f.is_true.piece in
    let base = held_at o.plan (is_in_base o.base) t in
    grind (arith, nat_tests, times_more own slip t, once, low, f.free t, h.counts t, base)

own_slips : (o : Opening) (own : List Slip) (s : StudyState) (doubtful : Option Slip) → Holds o own s
    → IfSome doubtful (IsFreeSlip o.plan s.ledger) → AreOfStudy o.plan o.base (own ++ some_slip doubtful)
own_slips o own s None h doubt = rw (append-nil own) (record { each = h.each; once = taken_once o own s h })
own_slips o own s (Some slip) h f = record {
  each = every-append (IsTrueSlip o.plan) own (slip ∷ []) h.each (f.is_true, tt);
  once = doubt_once o own s slip h f;
}

held_all : (o : Opening) (own : List Slip) (s : StudyState) → Holds o own s → is_complete s.ledger ≡ true → (t : ℕ)
    → t < trial_count o.plan → has s.ledger t ≡ true
held_all o own s h all t low =
    passes_at (has s.ledger) 0 (trial_count s.ledger.plan) all t (omega arith) (rw h.plan (omega (arith, low)))

all_slips : (o : Opening) (own : List Slip) (s : StudyState) → Holds o own s → is_complete s.ledger ≡ true
    → AreAllOfStudy o.plan o.base own
all_slips o own s h all t =
    let held = held_all o own s h all t in
    grind (arith, nat_tests, h.within t, h.counts t, held, held_at o.plan (is_in_base o.base) t)

no_doubt_then : (o : Opening) (own : List Slip) (s : StudyState) (doubtful : Option Slip) → Holds o own s
    → is_complete s.ledger ≡ true → IfSome doubtful (IsFreeSlip o.plan s.ledger) → doubtful ≡ None
no_doubt_then o own s None h all doubt = refl
no_doubt_then o own s (Some slip) h all f =
    let p : Piece = slip.piece in
    let is = f.is_true.piece in
    let some : 0 < p.count = grind (arith, nat_tests, is) in
    let here : is_in p p.first ≡ true = grind (arith, nat_tests, some) in
    let held = held_all o own s h all p.first (piece_within o.plan p p.first is here) in
    let free = f.free p.first here in
    absurd (let no : ⊥ = cc in no)

pub take_their_own : SamePlansAreEqual → StudiesTakeTheirOwn
take_their_own equal o calls s good from =
    let h : Holds o (accepted_slips calls) s = leads_hold equal o [] (opened_by o) s calls good (opened_holds o) from in
    record {
      own = own_slips o (accepted_slips calls) s s.doubtful h h.doubt;
      all = λ all. (
        all_slips o (accepted_slips calls) s h all,
        no_doubt_then o (accepted_slips calls) s s.doubtful h all h.doubt,
      );
      kept = h.kept;
    }
