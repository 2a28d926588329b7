-- A legal history that accepts the first trials of a plan, one after another.
use Rattle.std.proofs.Common.{◌≡◌, ◌∙◌, ◌+◌, ◌≤◌, ◌<◌, ◌||◌, ◌∷◌, [], ℕ, zero, suc, Bool, true, false, List, Option}
use Rattle.std.proofs.Common.{Some, None, IsTrue, refl, sym, ap, subst, arith, inl, inr}
use Rattle.std.proofs.Common.{All, length}
use Rattle.std.specs.Prelude.{nat_lt}
use Rattle.std.specs.List.{sum}
use Rattle.std.proofs.lemmas.Bool.Decides.{nat_tests}
use Rattle.std.proofs.lemmas.List.Elements.{All-cons, All-head, All-rest}
use Rattle.std.proofs.lemmas.List.Sums.{sum_by-append}
use Rattle.cut_lists.proofs.Intervals.{map_agree}
use Rattle.cut_faults.specs.declared.code.FaultCode.{FaultCode}
use Rattle.cut_plan.specs.Values.{Values}
use Rattle.cut_plan.specs.Cells.{trial_count}
use Rattle.cut_plan.specs.Plan.{IsPlan}
use Rattle.cut_plan.proofs.PlansFromTexts.{accepted_is_plan}
use Rattle.cut_outcome.specs.declared.piece.Piece.{Piece}
use Rattle.cut_outcome.specs.Computed.{Computed}
use Rattle.cut_outcome.specs.Sum.{is_piece}
use Rattle.cut_ledger.specs.Contents.{Contents, has, held_where, is_complete, is_in, overlaps}
use Rattle.cut_ledger.specs.Machine.{StudyState, accepted_unless, opened, refused_code, slip_of, taken, unless_refused}
use Rattle.cut_ledger.specs.Refusals.{is_same_plan}
use Rattle.cut_ledger.proofs.CellLemmas.{has_where}
use Rattle.cut_ledger.proofs.RefusalLemmas.{same_plan}
use Rattle.cut_book.specs.declared.call.Answer.TheVariants.{Accepted}
use Rattle.cut_book.specs.declared.call.Call.{Call}
use Rattle.cut_book.specs.declared.call.Call.TheVariants.{HandIn}
use Rattle.cut_book.specs.History.{IsStep, LeadsTo, accepted_in}
use Rattle.cut_book.proofs.Sums.{first_in}
use Rattle.cut_slots.specs.Report.{IsAcceptedCount, IsEndOf, SlotEnd, accepted_recorded}
use Rattle.cut_server.specs.Serve.{accepted_in_all}

-- a trial as a piece, its result, and the call that hands this in
abbrev trial_piece : ℕ → Piece
trial_piece t = record { first = t; count = 1 }

abbrev trial_result : Values → ℕ → Computed
trial_result v t = record { plan = v; piece = trial_piece t }

abbrev trial_call : Values → ℕ → Call
trial_call v t = HandIn (slip_of (trial_result v t)) true Accepted

-- n calls, from that of trial t on
abbrev trial_calls : Values → ℕ → ℕ → List Call
trial_calls v t zero = []
trial_calls v t (suc n) = trial_call v t ∷ trial_calls v (t + 1) n

-- the ledger that holds the first trials, and a study with it
abbrev first_held : Values → ℕ → Contents
first_held v t = record { plan = v; base = []; held = held_where v (λ u. nat_lt u t) }

abbrev state_at : Values → ℕ → StudyState
state_at v t = record (opened v false [] 1) { ledger = first_held v t }

-- it begins with none
begins : (v : Values) → opened v false [] 1 ≡ state_at v 0
begins v =
    grind arith

-- and holds one more after the next call
grown : (v : Values) (t : ℕ) → taken (state_at v t) (trial_result v t) ≡ state_at v (t + 1)
grown v t =
    ap (λ (held : List Bool). record (opened v false [] 1) { ledger = record { plan = v; base = []; held = held } })
    (map_agree (λ u. has (first_held v t) u || is_in (trial_piece t) u) (λ u. nat_lt u (t + 1)) 0 (trial_count v)
    (λ u low high. (let is = has_where v [] (λ w. nat_lt w t) u (omega arith) in grind (arith, nat_tests, is))))

free : (v : Values) (t : ℕ) → t < trial_count v → overlaps (first_held v t) (trial_piece t) ≡ false
free v t low = let is = has_where v [] (λ w. nat_lt w t) t low in grind (arith, nat_tests, is)

unrefused : (s : StudyState) (r : Computed) → s.broken ≡ false → is_same_plan s.ledger.plan r.plan ≡ true
    → overlaps s.ledger r.piece ≡ false → refused_code s r ≡ None
unrefused s r whole same over = rw (whole, same, over) refl

step : (v : Values) (t : ℕ) → IsPlan v → t < trial_count v → IsStep (state_at v t) (trial_call v t)
    (state_at v (t + 1))
step v t plan low =
    let same : is_same_plan v v ≡ true = same_plan v v true ((λ yes. refl), (λ equal. refl)) in
    let none : refused_code (state_at v t) (trial_result v t) ≡ None = unrefused (state_at v t)
    (trial_result v t) refl same (free v t low) in
    let piece : IsTrue (is_piece v (trial_piece t)) = grind (arith, nat_tests) in
    record {
      result = trial_result v t;
      true_result = (plan, piece);
      slip_is = refl;
      own_is = sym same;
      answered = record { reply = ap accepted_unless none; disk = tt };
      next = sym (ap (λ (o : Option FaultCode). unless_refused o (state_at v t)
          (taken (state_at v t) (trial_result v t)))
          none ∙ grown v t);
    }

leads : (v : Values) (n t : ℕ) → IsPlan v → t + n ≤ trial_count v → LeadsTo (state_at v t) (trial_calls v t n)
    (state_at v (t + n))
leads v zero t plan fits = ap (state_at v) (omega arith)
leads v (suc n) t plan fits = grind (arith, step v t plan, leads v n (t + 1) plan)

counted : (v : Values) (n t : ℕ) → accepted_in (trial_calls v t n) ≡ n
counted v zero t = refl
counted v (suc n) t = omega (arith, first_in (trial_call v t) (trial_calls v (t + 1) n), counted v n (t + 1))

-- the end of a slot that accepted this many trials
pub end_with : (n : ℕ) → IsAcceptedCount n → (s : SlotEnd) × (IsEndOf s.history s.complete
    × (accepted_recorded s.history ≡ n))
end_with n (inl none) = (record { history = None; complete = false }, (refl, sym none))
end_with n (inr some) =
    let v : Values = some.1 in
    let plan : IsPlan v = accepted_is_plan some.0 v some.2 in (
      record {
        history = Some (record {
          opening = record { plan = v; has_journal = false; base = []; size = 1 };
          calls = trial_calls v 0 n;
          room = 0;
          has_place = false;
        });
        complete = is_complete (first_held v (0 + n));
      },
      (
        (
          state_at v (0 + n),
          (
            subst (λ (s : StudyState). LeadsTo s (trial_calls v 0 n) (state_at v (0 + n))) (sym (begins v))
                (leads v n 0 plan (omega (arith, some.3))),
            refl,
          ),
        ),
        counted v n 0,
      ),
    )

-- the ends of slots that accepted these numbers of trials
pub record HaveEnds (counts : List ℕ) : Type 0 where
  pub report : List SlotEnd
  pub slots : length report ≡ length counts
  pub legal : All (λ s. IsEndOf s.history s.complete) report
  pub few : All (λ s. IsAcceptedCount (accepted_recorded s.history)) report
  pub total : accepted_in_all report ≡ sum counts

pub ends_with : (counts : List ℕ) → All IsAcceptedCount counts → HaveEnds counts
ends_with [] each = grind arith
ends_with (n ∷ counts) each =
    let first = end_with n (All-head IsAcceptedCount n counts each) in
    let rest = ends_with counts (All-rest IsAcceptedCount n counts (n ∷ counts) refl each) in
    let more = sum_by-append (λ (s : SlotEnd). accepted_recorded s.history) (first.0 ∷ []) rest.report in
    let sums = sum_by-append (λ (x : ℕ). x) (n ∷ []) counts in
    let few : IsAcceptedCount (accepted_recorded first.0.history) = subst IsAcceptedCount (sym first.1.1)
    (All-head IsAcceptedCount n counts each) in
    record {
      report = first.0 ∷ rest.report;
      slots = ap suc rest.slots;
      legal = All-cons (λ (s : SlotEnd). IsEndOf s.history s.complete) first.0 rest.report first.1.0 rest.legal;
      few = All-cons (λ (s : SlotEnd). IsAcceptedCount (accepted_recorded s.history)) first.0 rest.report few rest.few;
      total = omega (arith, first.1.1, rest.total, more, sums);
    }
