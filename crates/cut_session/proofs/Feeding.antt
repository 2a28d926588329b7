-- What a session makes of a piece of its input.
use Rattle.std.proofs.Common.{◌≡◌, ◌∙◌, ◌+◌, ◌*◌, ◌<◌, ◌≤◌, ◌++◌, ℕ, List, [], ◌∷◌, length, take, drop, Some, None, Ok}
use Rattle.std.proofs.Common.{Err, inl, refl, sym, ap, arith, append_assoc, append-nil, length-append, length-take-le}
use Rattle.std.proofs.Common.{take-append-drop}
use Rattle.std.proofs.lemmas.List.{length-drop, drop_all}
use Rattle.std.proofs.Math.Seq.{take-append-add}
use Rattle.cut_board.specs.declared.view.View.{View}
use Rattle.cut_wires.specs.Log.{WireLog, write_failed}
use Rattle.cut_wires.specs.declared.send.Sent.{Sent}
use Rattle.cut_wires.specs.Sending.{Sending, Sends, sent_on}
use Rattle.cut_messages.specs.declared.side.Side.TheVariants.{Requests}
use Rattle.cut_messages.specs.declared.message.Message.{Message}
use Rattle.cut_messages.specs.declared.fault.StreamFault.{StreamFault}
use Rattle.cut_messages.specs.Frames.{fault_at}
use Rattle.cut_messages.specs.Reading.{Reading, HasReadFrames}
use Rattle.cut_hall.specs.Hall.{HallValue}
use Rattle.cut_session.specs.declared.session_end.SessionEnd.{SessionEnd}
use Rattle.cut_session.specs.declared.session_end.SessionEnd.TheVariants as end
use Rattle.cut_session.specs.declared.session_end.SessionFault.{SessionFault}
use Rattle.cut_session.specs.declared.session_end.SessionFault.TheVariants as session
use Rattle.cut_session.specs.Answering.{AnswersAll}
use Rattle.cut_session.specs.Session.{request_limit, SessionTrace, IsSessionTrace, LastReply, QuitsAtOnce, IsDue}
use Rattle.cut_session.specs.Session.{passed, read_by}
use Rattle.cut_session.specs.Session.{CutsReply, EndsSessionAs}
use Rattle.cut_session.specs.inside.Serving.{Replies, ServesFirst, ServesAll, LeavesSending, ConcludesTable, IsServing, served}
use Rattle.cut_session.specs.inside.Serving.{longest_reply}
use Rattle.cut_session.proofs.SessionTraces.{Stands, leaves, served_more}
use Rattle.cut_session.proofs.Turns.{all_then}

-- what comes after a message that quits changes nothing
quits_more : (ms more : List Message) → QuitsAtOnce ms → QuitsAtOnce (ms ++ more) × (0 < length ms)
quits_more [] more quits = absurd quits
quits_more (m ∷ ms) more quits = (quits, omega arith)

-- a piece was read that completes messages, of which the first ones are to be answered
module _ {hall : HallValue} {low middle : View} {r next : Reading} {requests : ℕ} {piece : List ℕ} {first now : Sending}
    {more shown : List Message} (s : IsServing hall low middle r requests piece first now) (high : View) (count : ℕ)
    (read : HasReadFrames next (s.stream ++ piece) (s.messages ++ more)) (side : next.side ≡ r.side)
    (same : shown ≡ more)
    (few : requests + count ≤ request_limit) (within : count ≤ length shown) (none_sent : first.sent ≡ 0) where
  -- the writer with some more bytes
  fed_line : (bytes : List ℕ) (new : Sending) → new ≡ sent_on now bytes
      → new ≡ served first (s.out ++ bytes) ((s.stream ++ piece) ++ [])
  fed_line bytes new is =
      cc (is, served_more first now s.out (s.stream ++ piece) bytes s.line, append-nil (s.stream ++ piece))

  module _ (f : ServesFirst hall middle high (take count shown)) where
    -- its trace
    abbrev fed_trace : SessionTrace
    fed_trace = record {
      stream = s.stream ++ piece;
      answered = s.messages ++ f.answered;
      unanswered = f.unanswered ++ drop count shown;
      rest = read.rest;
      last = [];
      out = s.out ++ f.out;
    }

    fed_parts : s.messages ++ more ≡ (s.messages ++ f.answered) ++ (f.unanswered ++ drop count shown)
    fed_parts =
        let outer = append_assoc s.messages f.answered (f.unanswered ++ drop count shown) in
        cc (f.parts, take-append-drop count shown, append_assoc f.answered f.unanswered (drop count shown))

    fed_count : length f.answered + length f.unanswered ≡ count
    fed_count =
        let parts = ap (λ (l : List Message). length l) f.parts in
        omega (arith, length-take-le count shown within, length-append f.answered f.unanswered)

    is_fed_trace : IsSessionTrace hall low high fed_trace
    is_fed_trace = record {
      splits = rw (← fed_parts) (rw (side ∙ s.side) at read.splits);
      few = omega (arith, fed_count, s.many, length-append s.messages f.answered);
      replies = all_then hall low middle high s.messages f.answered s.out f.out s.replies f.replies;
    }

    fed_short : length (s.out ++ f.out) ≤ longest_reply * length (s.messages ++ f.answered)
    fed_short = omega (arith, s.few, f.short, length-append s.out f.out, length-append s.messages f.answered)

    -- a message quits
    fed_quits : (new : Sending) → new ≡ sent_on now f.out → QuitsAtOnce f.unanswered
        → ConcludesTable hall low high end.Quit first new
    fed_quits new is quits =
        let line = fed_line f.out new is in
        let more_quits = quits_more f.unanswered (drop count shown) quits in
        let ends : EndsSessionAs hall low high end.Quit fed_trace first.log new.log = (
          more_quits.0,
          omega (arith, more_quits.1, fed_count, s.many, length-append s.messages f.answered),
          refl,
          ap (λ (t : Sending). t.log) line,
        ) in
        ((fed_trace, is_fed_trace, ends), ap (λ (t : Sending). t.wire) line)

    -- a write of the last reply fails
    fed_cut : (fault : Sent) (new : Sending) → (l : LastReply hall middle high f.answered f.out)
        → Sends (Err fault) l.reply (sent_on now l.first) new → ConcludesTable hall low high (end.Write fault) first new
    fed_cut fault new l (total, (k, low_k, is)) =
        let before : List ℕ = s.out ++ l.first in
        let joined : s.out ++ f.out ≡ before ++ l.reply = cc (l.joined, append_assoc s.out l.first l.reply) in
        let mid : Sending = sent_on now l.first in
        let line =
        served_more first mid before ((s.stream ++ piece) ++ []) (take k l.reply) (fed_line l.first mid refl) in
        let size : length (take k l.reply) ≡ k = length-take-le k l.reply (omega (arith, low_k)) in
        let whole : length (s.out ++ f.out) ≡ length before + length l.reply =
        ap (λ (l : List ℕ). length l) joined ∙ length-append before l.reply in
        let sum : fault.sent ≡ length before + k =
        omega (
          arith,
          ap (λ (t : Sending). t.sent) is,
          ap (λ (t : Sending). t.sent) line,
          length-append before (take k l.reply),
          fed_short,
          is_fed_trace.few,
        ) in
        let part : before ++ take k l.reply ≡ take fault.sent (s.out ++ f.out) =
        cc (sum, joined, take-append-add before l.reply k) in
        let last : LastReply hall low high (s.messages ++ f.answered) (s.out ++ f.out) = record {
          before = s.messages ++ l.before;
          here = l.here;
          middle = l.middle;
          first = before;
          reply = l.reply;
          parts = cc (l.parts, append_assoc s.messages l.before (l.here ∷ []));
          replies = all_then hall low middle l.middle s.messages l.before s.out l.first s.replies l.replies;
          answers = l.answers;
          joined = joined;
        } in
        let log : new.log ≡ write_failed (passed fed_trace (take fault.sent (s.out ++ f.out)) first.log) =
        ap (λ (t : Sending). t.log) is ∙ ap (λ (t : Sending). write_failed t.log) line
        ∙ ap (λ (bytes : List ℕ). write_failed (passed fed_trace bytes first.log)) part in
        let cuts : CutsReply hall low high fault.sent fed_trace first.log new.log =
        (last, omega (arith, sum), omega (arith, sum, whole), refl, log) in
        ((fed_trace, is_fed_trace, inl cuts), cc (is, line))

  -- the session ended at one of these
  pub fed_ends : (result : SessionEnd) (new : Sending)
      → ServesAll hall middle high (take count shown) (Err result) now new → ConcludesTable hall low high result first new
  fed_ends end.Quit new (f, quits, is) = fed_quits f new is quits
  fed_ends (end.Write fault) new (f, l, sends) = fed_cut f fault new l sends
  fed_ends other new none = absurd none

  -- all of these are answered
  module _ (mid : Sending) (all : Replies (AnswersAll hall middle high (take count shown))
      (longest_reply * length (take count shown)) (Ok tt) now mid) where
    abbrev all_first : ServesFirst hall middle high (take count shown)
    all_first = record {
      answered = take count shown;
      unanswered = [];
      out = all.0;
      parts = sym (append-nil (take count shown));
      replies = all.1;
      short = all.2;
    }

    all_stands : (fault : SessionFault) → ((l : WireLog) → l ≡ read_by fault l)
        → Stands first fault (fed_trace all_first) mid
    all_stands fault same =
        let line = fed_line all.0 mid all.3 in
        let short = fed_short all_first in
        let few = (is_fed_trace all_first).few in
        record {
          wire = ap (λ (t : Sending). t.wire) line;
          log = ap (λ (t : Sending). t.log) line ∙ same (passed (fed_trace all_first) (s.out ++ all.0) first.log);
          sent = omega (arith, ap (λ (t : Sending). t.sent) line);
          short = omega arith;
        }

    all_count : length (s.messages ++ take count shown) ≡ requests + count
    all_count = omega (arith, fed_count all_first, s.many, length-append s.messages (take count shown))

    -- no more messages may be answered
    pub fed_limit : (result : SessionEnd) (new : Sending) → requests + count ≡ request_limit → count < length shown
        → LeavesSending session.TooManyRequests result mid new → ConcludesTable hall low high result first new
    fed_limit result new limit some l =
        let due : IsDue session.TooManyRequests (fed_trace all_first) =
        (omega (arith, all_count), omega (arith, length-drop count shown), refl) in
        leaves (is_fed_trace all_first) due (all_stands session.TooManyRequests (λ l. refl)) result new l

    -- a fault stands after them
    pub fed_fault : (fault : StreamFault) (result : SessionEnd) (new : Sending) → length shown ≤ count
        → next.fault ≡ Some fault → LeavesSending (session.Stream fault) result mid new
        → ConcludesTable hall low high result first new
    fed_fault fault result new none wrong l =
        let stands : fault_at Requests read.rest ≡ Some fault = cc (side, s.side, read.fault, wrong) in
        let due : IsDue (session.Stream fault) (fed_trace all_first) = ((drop_all count shown none, refl), stands) in
        leaves (is_fed_trace all_first) due (all_stands (session.Stream fault) (λ l. refl)) result new l

    -- the session goes on, and has read the piece
    pub fed_on : length shown ≤ count → next.fault ≡ None → 0 < length piece
        → (n : IsServing hall low high next (requests + count) [] first mid) × (length s.stream < length n.stream)
    fed_on none right some =
        let answered : s.messages ++ more ≡ s.messages ++ take count shown =
        cc (same, take-append-drop count shown, drop_all count shown none, append-nil (take count shown)) in (
          record {
            stream = s.stream ++ piece;
            messages = s.messages ++ take count shown;
            out = s.out ++ all.0;
            read = rw (← answered) read;
            right = right;
            side = side ∙ s.side;
            many = sym all_count;
            replies = all_then hall low middle high s.messages (take count shown) s.out all.0 s.replies all.1;
            few = fed_short all_first;
            line = fed_line all.0 mid all.3;
          },
          omega (arith, some, length-append s.stream piece),
        )
