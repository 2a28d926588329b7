-- Sessions, read by read.
use Rattle.std.proofs.Common.{◌≡◌, ◌∙◌, ◌+◌, ◌*◌, ◌<◌, ◌≤◌, ◌++◌, ℕ, false, List, [], ◌∷◌, length, take}
use Rattle.std.proofs.Common.{nat_eq, None, Ok, Err, inr, refl, sym, ap, arith, append_assoc, append-nil, length-append}
use Rattle.std.proofs.Common.{length-take-le}
use Rattle.std.specs.Borrow.{GName}
use Rattle.std.proofs.lemmas.Bool.Decides.{nat_tests}
use Rattle.std.proofs.Math.Seq.{take-append-add}
use Rattle.cut_board.specs.declared.view.View.{View}
use Rattle.cut_wires.specs.Log.{WireLog, passing, with_taken, with_given, wrote, read_failed}
use Rattle.cut_wires.specs.Sending.{Sending, sent_on, got_on}
use Rattle.cut_wires.proofs.Logs.{passing_twice, passing_same}
use Rattle.cut_messages.specs.declared.side.Side.TheVariants.{Requests}
use Rattle.cut_messages.specs.declared.fault.EndFault.{EndFault}
use Rattle.cut_hall.specs.Hall.{HallValue}
use Rattle.cut_slots.specs.Pass.{Holding}
use Rattle.cut_session.specs.declared.session_end.SessionEnd.{SessionEnd}
use Rattle.cut_session.specs.declared.session_end.SessionEnd.TheVariants as end
use Rattle.cut_session.specs.declared.session_end.SessionFault.{SessionFault}
use Rattle.cut_session.specs.declared.session_end.SessionFault.TheVariants as session
use Rattle.cut_session.specs.FaultCode.{code_of_session}
use Rattle.cut_messages.specs.Frames.{fault_at}
use Rattle.cut_messages.specs.Reading.{Reading, HasReadFrames, end_of}
use Rattle.cut_session.specs.Answering.{Rises, error_frame}
use Rattle.cut_session.specs.Session.{request_limit, SessionTrace, IsSessionTrace, IsDue, passed, with_end, ended}
use Rattle.cut_session.specs.Session.{read_by}
use Rattle.cut_session.specs.Session.{EndsSessionAs, EndsSession}
use Rattle.cut_session.specs.inside.Serving.{LeavesSending, IsServing, ConcludesTable, conveyed, served, longest_reply}

-- ---- the wire of a session

-- writes after others
conveyed_more : (out given more : List ℕ) (l : WireLog)
    → wrote (passing (conveyed out given) l) more ≡ passing (conveyed (out ++ more) given) l
conveyed_more out given more l =
    grind (arith, append_assoc)

pub served_more : (first now : Sending) (out given more : List ℕ) → now ≡ served first out given
    → sent_on now more ≡ served first (out ++ more) given
served_more first now out given more is =
    grind (arith, length-append, conveyed_more)

-- what the last read did is the same before and after a write
read_by_more : (fault : SessionFault) (l : WireLog) (bytes : List ℕ)
    → wrote (read_by fault l) bytes ≡ read_by fault (wrote l bytes)
read_by_more session.Truncated l bytes =
    passing_twice (λ t. with_taken t bytes) with_end l ∙ sym (passing_twice with_end (λ t. with_taken t bytes) l)
read_by_more session.Read l bytes = refl
read_by_more fault l bytes = refl

-- ---- a fault ends it

-- a counting writer by which a trace was served, at which a fault is due
pub record Stands (first : Sending) (fault : SessionFault) (c : SessionTrace) (mid : Sending) : Type 0 where
  pub wire : mid.wire ≡ first.wire
  pub log : mid.log ≡ read_by fault (passed c c.out first.log)
  pub sent : mid.sent ≡ length c.out
  pub short : length c.out ≤ longest_reply * 1000000

module _ {hall : HallValue} {low high : View} {c : SessionTrace} {fault : SessionFault} {first mid : Sending}
    (is : IsSessionTrace hall low high c) (due : IsDue fault c) (stands : Stands first fault c mid) where
  passed_more : (bytes : List ℕ) → wrote mid.log bytes ≡ read_by fault (passed c (c.out ++ bytes) first.log)
  passed_more bytes =
      let same = read_by_more fault (passed c c.out first.log) bytes in
      cc (stands.log, conveyed_more c.out (c.stream ++ c.last) bytes first.log)

  pub leaves : (result : SessionEnd) (new : Sending) → LeavesSending fault result mid new
      → ConcludesTable hall low high result first new
  leaves (end.Fault sent) new (same, on) =
      let frame : List ℕ = error_frame (code_of_session fault) in
      let ends : EndsSessionAs hall low high (end.Fault fault) c first.log new.log = (due, cc (on, passed_more frame))
      in
      rw same ((c, is, ends), cc (on, stands.wire))
  leaves (end.Write failed) new (count, (k, low_k, cut)) =
      let frame : List ℕ = error_frame (code_of_session fault) in
      let seven : length frame ≡ 7 = omega arith in
      let size : length (take k frame) ≡ k = length-take-le k frame (omega (arith, low_k)) in
      let sum : failed.sent ≡ length c.out + k =
      omega (arith, ap (λ (s : Sending). s.sent) cut, stands.sent, stands.short) in
      let part : c.out ++ take k frame ≡ take failed.sent (c.out ++ frame) = cc (sum, take-append-add c.out frame k) in
      let ends : EndsSessionAs hall low high (end.Write failed) c first.log new.log = inr (
        fault,
        due,
        omega (arith, sum),
        omega (arith, sum, low_k, length-append c.out frame),
        cc (cut, passed_more (take k frame), part),
      ) in
      ((c, is, ends), cc (cut, stands.wire))
  leaves other new l = absurd l

-- ---- between two reads

none_held : (held : List ℕ) → end_of None held ≡ Ok tt → held ≡ []
none_held [] ends = refl
none_held (b ∷ held) ends = cc

some_held : (held : List ℕ) (e : EndFault) → end_of None held ≡ Err e → held ≡ [] → ⊥
some_held [] e ends none = cc
some_held (b ∷ held) e ends none = cc

-- the trace so far, with what a read gave that is not read yet
abbrev pub trace_of : {hall : HallValue} {low high : View} {r : Reading} {requests : ℕ} {piece : List ℕ}
    {first now : Sending} → List ℕ → IsServing hall low high r requests piece first now → SessionTrace
trace_of last s = record {
  stream = s.stream;
  answered = s.messages;
  unanswered = [];
  rest = s.read.rest;
  last = last;
  out = s.out;
}

module _ {hall : HallValue} {low high : View} {r : Reading} {requests : ℕ} {piece : List ℕ} {first now : Sending}
    (s : IsServing hall low high r requests piece first now) (few : requests ≤ request_limit)
    (none_sent : first.sent ≡ 0) where
  pub is_trace : (last : List ℕ) → IsSessionTrace hall low high (trace_of last s)
  is_trace last = record {
    splits = rw append-nil (rw s.side at s.read.splits);
    few = omega (arith, few, s.many);
    replies = s.replies;
  }

  pub right_after : fault_at Requests s.read.rest ≡ None
  right_after = cc (s.side, s.read.fault, s.right)

  -- a fault is due now, after what the last read did
  stands_at : (fault : SessionFault) (last : List ℕ) (mid : Sending) → mid.wire ≡ now.wire → mid.sent ≡ now.sent
      → mid.log ≡ read_by fault (passed (trace_of last s) s.out first.log) → Stands first fault (trace_of last s) mid
  stands_at fault last mid wire sent log = record {
    wire = wire ∙ ap (λ (t : Sending). t.wire) s.line;
    log = log;
    sent = omega (arith, sent, ap (λ (t : Sending). t.sent) s.line, none_sent, s.few, s.many, few);
    short = omega (arith, s.few, s.many, few);
  }

  -- memory ran out for what a read gave
  pub ends_full : (result : SessionEnd) (new : Sending) → 0 < length piece → length piece ≤ 4096
      → LeavesSending session.Memory result now new → ConcludesTable hall low high result first new
  ends_full result new some short l =
      leaves (is_trace piece) (refl, some, short, right_after)
      (stands_at session.Memory piece now refl refl (ap (λ (t : Sending). t.log) s.line)) result new l

-- at first
pub serves_first : (hall : HallValue) (v : View) (r : Reading) (first : Sending) → HasReadFrames r [] [] → r.fault
    ≡ None
    → r.side ≡ Requests → Rises v v → first.sent ≡ 0 → IsServing hall v v r 0 [] first first
serves_first hall v r first read right side rises none_sent = grind (arith, append-nil)

module _ {hall : HallValue} {low high : View} {r : Reading} {requests : ℕ} {first now : Sending}
    (s : IsServing hall low high r requests [] first now) (new : Sending) where
  -- a read gave some bytes
  pub serves_given : (buffer : List ℕ) (n : ℕ) → new ≡ got_on now buffer n → 0 < n
      → (t : IsServing hall low high r requests (take n buffer) first new) × (s.stream ≡ t.stream)
  serves_given buffer n is some =
      let not_zero : nat_eq n 0 ≡ false = grind (arith, nat_tests) in
      let piece : List ℕ = take n buffer in (
        record {
          stream = s.stream;
          messages = s.messages;
          out = s.out;
          read = s.read;
          right = s.right;
          side = s.side;
          many = s.many;
          replies = s.replies;
          few = s.few;
          line = cc (
            is,
            s.line,
            passing_twice (λ t. with_given t buffer n) (conveyed s.out (s.stream ++ [])) first.log,
            passing_same (λ t. with_given (conveyed s.out (s.stream ++ []) t) buffer n)
                (conveyed s.out (s.stream ++ piece)) first.log
                (λ t. cc (not_zero, append-nil s.stream, append_assoc t.given s.stream piece)),
          );
        },
        refl,
      )

  -- or the end
  gave_end : (buffer : List ℕ) (n : ℕ) → new ≡ got_on now buffer n → n ≡ 0
      → new.log ≡ ended (passed (trace_of [] s) s.out first.log)
  gave_end buffer n is none =
      cc (is, none, passing_same (λ t. with_given t buffer 0) with_end now.log (λ t. cc (append-nil t.given)), s.line)

  pub ends_between : (buffer : List ℕ) (n : ℕ) → requests ≤ request_limit → first.sent ≡ 0
      → new ≡ got_on now buffer n → n ≡ 0 → end_of r.fault r.held ≡ Ok tt
      → ConcludesTable hall low high end.EndOfInput first new
  ends_between buffer n few none_sent is none whole =
      let rest : s.read.rest ≡ [] = sym (s.read.held s.right) ∙ none_held r.held (rw s.right at whole) in
      let ends : EndsSessionAs hall low high end.EndOfInput (trace_of [] s) first.log new.log =
      ((refl, refl), rest, gave_end buffer n is none) in
      ((trace_of [] s, is_trace s few none_sent [], ends), cc (is, s.line))

  pub ends_within : (buffer : List ℕ) (n : ℕ) (result : SessionEnd) (e : EndFault) (last : Sending)
      → requests ≤ request_limit → first.sent ≡ 0 → new ≡ got_on now buffer n → n ≡ 0
      → end_of r.fault r.held ≡ Err e → LeavesSending session.Truncated result new last
      → ConcludesTable hall low high result first last
  ends_within buffer n result e last few none_sent is none part l =
      let due : IsDue session.Truncated (trace_of [] s) = (
        (refl, refl),
        right_after s few none_sent,
        λ empty. some_held r.held e (rw s.right at part) (s.read.held s.right ∙ empty),
      ) in
      leaves (is_trace s few none_sent []) due
      (stands_at s few none_sent session.Truncated [] new (ap (λ (t : Sending). t.wire) is)
      (ap (λ (t : Sending). t.sent) is) (gave_end buffer n is none)) result last l

  -- or failed
  pub ends_unread : (result : SessionEnd) (last : Sending) → requests ≤ request_limit → first.sent ≡ 0
      → new ≡ record { wire = now.wire; log = read_failed now.log; sent = now.sent }
      → LeavesSending session.Read result new last → ConcludesTable hall low high result first last
  ends_unread result last few none_sent is l =
      let due : IsDue session.Read (trace_of [] s) = ((refl, refl), right_after s few none_sent) in
      leaves (is_trace s few none_sent []) due
      (stands_at s few none_sent session.Read [] new (ap (λ (t : Sending). t.wire) is) (ap (λ (t : Sending). t.sent) is)
      (ap (λ (t : Sending). t.log) is ∙ ap (λ (t : Sending). read_failed t.log) s.line)) result last l

-- ---- once the writer and the session are given up

pub concludes_at : {X : Type 0} (log : X → WireLog) (hall : HallValue) (low high : View) (end : SessionEnd)
    (first last after : X) (name other : GName) (sent : ℕ) (old : Sending)
    → old ≡ record { wire = name; log = log first; sent = 0 }
    → ConcludesTable hall low high end old (record { wire = other; log = log last; sent = sent })
    → (name ≡ other → after ≡ last) → EndsSession hall low high end (log first) (log after)
concludes_at log hall low high end first last after name other sent old fresh (ends, same) leaves =
    grind arith

pub seen_at : (hall : HallValue) (low : View) (end : SessionEnd) (old new : WireLog) (last after : Holding)
    (name other : GName)
    → other ≡ name → (name ≡ other → after ≡ last) → EndsSession hall low last.view end old new
    → EndsSession hall low after.view end old new
seen_at hall low end old new last after name other same leaves ends =
    rw (leaves (sym same)) ends
