-- Each event leaves true what holds of a run.
use Rattle.std.proofs.Common.{◌≡◌, ℕ, ◌+◌, ◌*◌, ◌≤◌, ◌||◌, Bool, true, false, cond, refl, sym, ap}
use Rattle.std.proofs.Common.{List, [], ◌∷◌, ◌++◌, Option, Some, None, IfSome, length, take, drop, ◌∙◌, IsTrue}
use Rattle.std.proofs.Common.{arith, append_assoc, append-nil, subst, take-append-drop, take_all}
use Rattle.std.specs.Prelude.{slice_get}
use Rattle.std.proofs.lemmas.Bool.{cond_both}
use Rattle.std.proofs.lemmas.Bool.Decides.{nat_tests}
use Rattle.cut_faults.specs.declared.code.FaultCode.TheVariants as code
use Rattle.cut_lists.proofs.Intervals.{list_all_passing, passes_at}
use Rattle.cut_lists.proofs.Ranges.{none_passing}
use Rattle.cut_ledger.specs.lines.Lines.{table}
use Rattle.cut_ledger.specs.declared.event.Event.TheVariants.{Draw, HandIn, HandInDiskFails, Lose, CrashReopen, Emit}
use Rattle.cut_ledger.specs.declared.event.Event.TheVariants.{WireFails, NewWire, Finish}
use Rattle.cut_ledger.specs.declared.event.Reply as replies
use Rattle.cut_ledger.specs.declared.event.Reply.TheVariants as reply
use Rattle.cut_ledger.specs.Laws.{SamePlansAreEqual}
use Rattle.cut_ledger.specs.Machine.{next_bytes}
use Rattle.cut_ledger.proofs.Words.{AllByRecursion, AreTrue, CanTake, Computed, Contents, Event, FaultCode}
use Rattle.cut_ledger.proofs.Words.{HasTrueResult, IsDoubtful, IsFounded, IsPlan, IsReached, IsRight}
use Rattle.cut_ledger.proofs.Words.{IsTrueSlip, Piece, Slip, StudyState, SayAlike, Values}
use Rattle.cut_ledger.proofs.Words.{World, accepted_after, accepted_unless, after, available, begun}
use Rattle.cut_ledger.proofs.Words.{bytes_after, cell_done, drawn_piece, failed, has}
use Rattle.cut_ledger.proofs.Words.{is_finished, is_in, is_piece, list_any, one_if}
use Rattle.cut_ledger.proofs.Words.{pieces_of_slips, refused_code, run}
use Rattle.cut_ledger.proofs.Words.{slice_index_or, slip_of, slips_found, some_slip, start, step, sum_of}
use Rattle.cut_ledger.proofs.Words.{taken, times_in, trials_in, unless_refused, with_piece}
use Rattle.cut_ledger.proofs.LawBytes.{Written, available_prefix, available_grows, available_whole, written_more}
use Rattle.cut_ledger.proofs.Law.{Holds, held_within, times_more, times_push, one_if-le}
use Rattle.cut_ledger.proofs.Law.{opened_holds, start_holds}
use Rattle.cut_plan.proofs.Every.{every-append}

-- ---- results that are taken

-- what is known of a result that a run takes
pub record Accepts (v : Values) (s : StudyState) (r : Computed) : Type 0 where
  pub unbroken : s.broken ≡ false
  pub plan : r.plan ≡ v
  pub piece : IsTrue (is_piece v r.piece)
  pub free : (t : ℕ) → is_in r.piece t ≡ true → has s.ledger t ≡ false

-- where the ledger can take it
pub can_take : (v : Values) (s : StudyState) (r : Computed) → IsReached v s → s.broken ≡ false → CanTake s.ledger r
    → IsTrue (is_piece r.plan r.piece) → Accepts v s r
can_take v s r h unbroken free piece = grind (arith, none_passing (has s.ledger) r.piece.first r.piece.count)

-- and where it is not refused
accepts : SamePlansAreEqual → (v : Values) (s : StudyState) (r : Computed) → IsPlan v → IsReached v s
    → HasTrueResult (HandIn r) → refused_code s r ≡ None → Accepts v s r
accepts equal v s r good h result none =
    grind (arith, can_take)

true_slip : (v : Values) (s : StudyState) (r : Computed) → Accepts v s r → IsTrueSlip v (slip_of r)
true_slip v s r a = record { piece = a.piece; totals = ap (λ u. sum_of u (trials_in r.piece)) a.plan }

-- what the ledger holds after a result that it takes
record IsMore (v : Values) (l : Contents) (p : Piece) : Type 0 where
  held : (t : ℕ) → has (with_piece l p) t ≡ has l t || is_in p t
  ones : (t : ℕ) → one_if (has (with_piece l p) t) ≡ one_if (has l t) + one_if (is_in p t)
  ledger : IsFounded v (with_piece l p)

more : (v : Values) (s : StudyState) (r : Computed) → IsReached v s → Accepts v s r → IsMore v s.ledger r.piece
more v s r h a =
    grind (arith, held_within)

pub taken_reached : (v : Values) (s : StudyState) (r : Computed) → IsReached v s → Accepts v s r
    → IsReached v (taken s r)
taken_reached v s r h a =
    let l : Contents = s.ledger in
    let now : IsMore v l r.piece = more v s r h a in
    let grows : (c : ℕ) → cell_done l c ≡ true → cell_done (with_piece l r.piece) c ≡ true = λ c done.
    list_all_passing (has (with_piece l r.piece)) (c * l.plan.repeats) l.plan.repeats (λ t low high.
    (let was = passes_at (has l) (c * l.plan.repeats) l.plan.repeats done t low high in grind (arith, now.held t))) in
    record {
      ledger = now.ledger;
      kept = cond_both s.has_journal (s.kept ++ slip_of r ∷ []) s.kept (λ slips. AllByRecursion (IsTrueSlip v) slips)
          (λ _. every-append (IsTrueSlip v) s.kept (slip_of r ∷ []) h.kept (true_slip v s r a, tt)) (λ _. h.kept);
      apart = λ t. grind (arith, times_more s.kept (slip_of r) t, now.ones t, h.apart t);
      doubtful = rw (h.frozen a.unbroken) tt;
      frozen = h.frozen;
      sent = omega (arith, h.sent, available_grows v l (with_piece l r.piece) h.ledger now.ledger grows);
    }

pub failed_reached : (v : Values) (s : StudyState) (r : Computed) → IsReached v s → Accepts v s r
    → IsReached v (failed s r)
failed_reached v s r h a = grind (arith, true_slip v s r a)

-- ---- resumptions

-- the kept ones alone are true and apart
kept_alone : (v : Values) (l : Contents) (kept : List Slip) → AllByRecursion (IsTrueSlip v) kept
    → ((t : ℕ) → times_in (pieces_of_slips kept) t ≤ one_if (has l t)) → AreTrue v (kept ++ [])
kept_alone v l kept each apart =
    rw (append-nil kept) (record { each = each; apart = λ t. omega (arith, apart t, one_if-le (has l t)) })

-- and so are slips that are found
pub found : (v : Values) (l : Contents) (journal : Bool) (kept : List Slip) (d : Option Slip) (keep : Bool)
    → AllByRecursion (IsTrueSlip v) kept → ((t : ℕ) → times_in (pieces_of_slips kept) t ≤ one_if (has l t))
    → IfSome d (λ s. IsDoubtful v l s) → AreTrue v (cond journal (kept ++ cond keep (some_slip d) []) [])
found v l false kept d keep each apart doubt = record { each = tt; apart = λ t. omega arith }
found v l true kept d false each apart doubt = kept_alone v l kept each apart
found v l true kept None true each apart doubt = kept_alone v l kept each apart
found v l true kept (Some s) true each apart doubt = record {
  each = every-append (IsTrueSlip v) kept (s ∷ []) each (doubt.is_true, tt);
  apart = λ t. grind (arith, times_more kept s t, apart t, doubt.free t);
}

-- ---- bytes

pub emitted : (v : Values) (l : Contents) (bytes : List ℕ) (sent n : ℕ) (lost : Bool) → IsFounded v l
    → Written (table v) sent bytes (available l)
    → Written (table v) (sent + length (cond {A = List ℕ} lost [] (take n (drop sent (available l)))))
    (bytes ++ cond {A = List ℕ} lost [] (take n (drop sent (available l)))) (available l)
emitted v l bytes sent n true good before = grind (arith, append-nil)
emitted v l bytes sent n false good before =
    let prefix = available_prefix v l good in
    written_more (table v) (available l) prefix.0 bytes sent n prefix.1 before

-- the same state with another number of bytes sent, and another division
pub sent_reached : (v : Values) (s t : StudyState) → IsReached v s → t.ledger ≡ s.ledger → t.kept ≡ s.kept → t.doubtful
    ≡ s.doubtful → t.broken ≡ s.broken → t.sent ≤ length (available s.ledger) → IsReached v t
sent_reached v s t h ledger kept doubtful broken sent = grind arith

-- a reached state, of its own plan
pub own_plan : (v : Values) (t : StudyState) → IsReached v t → IsReached t.ledger.plan t
own_plan v t h = subst (λ (u : Values). IsReached u t) (sym h.ledger.plan) h

-- ---- every event

handed_in : SamePlansAreEqual → (v : Values) (w : World) (r : Computed) → IsPlan v → Holds v w
    → HasTrueResult (HandIn r) → (o : Option FaultCode) → refused_code w.state r ≡ o
    → Holds v (record {
      state = unless_refused o w.state (taken w.state r);
      bytes = bytes_after (HandIn r) (accepted_unless o) w.bytes;
      accepted = accepted_after (HandIn r) (accepted_unless o) w.accepted;
    })
handed_in equal v w r good h result None none =
    let a : Accepts v w.state r = accepts equal v w.state r good h.reached result none in
    let base : List Piece = pieces_of_slips w.state.ledger.base in
    record {
      reached = taken_reached v w.state r h.reached a;
      once = λ t. rw (
        ← append_assoc base w.accepted (r.piece ∷ []),
        times_push (base ++ w.accepted) r.piece t,
        h.once t,
      ) (sym ((more v w.state r h.reached a).ones t));
      first = h.first;
    }
handed_in equal v w r good h result (Some why) some = h

handed_in_vain : SamePlansAreEqual → (v : Values) (w : World) (r : Computed) → IsPlan v → Holds v w
    → HasTrueResult (HandIn r) → (o : Option FaultCode) → refused_code w.state r ≡ o
    → Holds v (record { state = unless_refused o w.state (failed w.state r); bytes = w.bytes; accepted = w.accepted })
handed_in_vain equal v w r good h result None none = search (arith, failed_reached, accepts)
handed_in_vain equal v w r good h result (Some why) some = h

-- a run in which nothing that is spoken of has changed
plain : (v : Values) (w u : World) → Holds v w → u.state.ledger ≡ w.state.ledger → u.state.kept ≡ w.state.kept
    → u.state.doubtful ≡ w.state.doubtful → u.state.broken ≡ w.state.broken → u.state.sent ≡ w.state.sent
    → u.bytes ≡ w.bytes → u.accepted ≡ w.accepted → Holds v u
plain v w u h ledger kept doubtful broken sent bytes accepted = grind arith

-- bytes that are written, after which the wire is lost or not
written : (v : Values) (w : World) (n : ℕ) (lost : Bool) → Holds v w → Holds v (record {
  state = record (after w.state (Emit n)) { wire_lost = lost };
  bytes = w.bytes ++ next_bytes w.state n;
  accepted = w.accepted;
})
written v w n lost h =
    grind (arith, emitted v w.state.ledger w.bytes w.state.sent n w.state.wire_lost h.reached.ledger)

draw_shows : (o : Option Piece) (bytes : List ℕ) → bytes_after Draw (drawn_piece o) bytes ≡ bytes
draw_shows None bytes = refl
draw_shows (Some p) bytes = refl

loss_shows : (i : ℕ) (b : Bool) (bytes : List ℕ) → bytes_after (Lose i)
    (cond b (reply.Refused code.BadPiece) reply.Noted) bytes ≡ bytes
loss_shows i b bytes = grind arith

-- what is answered to the last question
abbrev end_reply : Bool → Bool → Bool → replies.Reply
end_reply a b c = cond a reply.Done (cond b (reply.Refused code.Checkpoint)
    (cond c (reply.Refused code.WorkMemory) reply.NotYet))

end_shows : (a b c : Bool) (bytes : List ℕ) → bytes_after Finish (end_reply a b c) bytes ≡ bytes
end_shows a b c bytes = grind arith

step_holds : SamePlansAreEqual → (v : Values) (w : World) (e : Event) → IsPlan v → Holds v w → HasTrueResult e
    → Holds v (step w e)
step_holds equal v w Draw good h result = plain v w (step w Draw) h refl refl refl refl refl
    (draw_shows (slice_get w.state.division w.state.drawn) w.bytes) refl
step_holds equal v w (HandIn r) good h result = handed_in equal v w r good h result (refused_code w.state r) refl
step_holds equal v w (HandInDiskFails r) good h result = handed_in_vain equal v w r good h result
    (refused_code w.state r) refl
step_holds equal v w (Lose i) good h result = plain v w (step w (Lose i)) h refl refl refl refl refl
    (loss_shows i (slice_index_or w.state.lost i true) w.bytes) refl
step_holds equal v w (CrashReopen keep size) good h result =
    let s : StudyState = w.state in
    rw h.reached.ledger.plan (opened_holds v h.reached.ledger.some s.has_journal (slips_found s keep) size
    (found v s.ledger s.has_journal s.kept s.doubtful keep h.reached.kept h.reached.apart h.reached.doubtful))
step_holds equal v w (Emit n) good h result = written v w n w.state.wire_lost h
step_holds equal v w (WireFails n) good h result = written v w n true h
step_holds equal v w NewWire good h result = grind arith
step_holds equal v w Finish good h result = plain v w (step w Finish) h refl refl refl refl refl
    (end_shows (is_finished w.state) w.state.broken (list_any (λ is_lost. is_lost) w.state.lost) w.bytes) refl

-- ---- runs

pub run_holds : SamePlansAreEqual → (v : Values) (w : World) (events : List Event) → IsPlan v → Holds v w
    → AllByRecursion HasTrueResult events → Holds v (run w events)
run_holds equal v w [] good h results = h
run_holds equal v w (e ∷ events) good h results = run_holds equal v (step w e) events good
    (step_holds equal v w e good h results.0) results.1

-- what is promised

is_done : (a b c : Bool) → end_reply a b c ≡ reply.Done → a ≡ true
is_done a b c e = grind arith

pub right_from : (v : Values) (w : World) → IsPlan v → Holds v w → IsRight v w
right_from v w good h =
    let s : StudyState = w.state in
    let at : IsReached v s = h.reached in
    record {
      plan = at.ledger.plan;
      begins = (drop s.sent (table v), rw h.first (sym (take-append-drop s.sent (table v))));
      whole = λ e. (
          let finished = is_done (is_finished s) s.broken (list_any (λ is_lost. is_lost) s.lost) e in
          let table_is = available_whole v s.ledger at.ledger in
          h.first ∙ take_all s.sent (table v) (grind (arith, nat_tests, finished, table_is)));
      once = h.once;
      offered = λ complete. available_whole v s.ledger at.ledger complete;
      kept = at.kept;
      apart = λ t. omega (arith, at.apart t, one_if-le (has s.ledger t));
    }

-- the law
pub law : SamePlansAreEqual → (journal : Bool) (v : Values) (size : ℕ) (events : List Event) → IsPlan v
    → AllByRecursion HasTrueResult events → IsRight v (run (begun (start v size journal)) events)
law equal journal v size events good results =
    search (arith, right_from, run_holds, start_holds)

pub alike : (v : Values) (a b : World) → IsRight v a → IsRight v b → SayAlike a b
alike v a b one other = grind arith
