-- What the parts of a session do. Only the crate's private clauses cite it.
use Rattle.std.specs.Prelude.{◌≡◌, ◌+◌, ◌*◌, ◌-◌, ◌^◌, ◌<◌, ◌≤◌, ◌++◌, ℕ, List, [], length, min, Result, Ok, Err, None, ⊤}
use Rattle.cut_board.specs.declared.view.View.{View}
use Rattle.cut_wires.specs.Log.{Traffic, passing}
use Rattle.cut_wires.specs.Sending.{Sending, Sends, sent_on}
use Rattle.cut_wires.specs.declared.send.Sent.{Sent}
use Rattle.cut_messages.specs.declared.side.Side.TheVariants.{Requests}
use Rattle.cut_messages.specs.declared.kind.Kind.TheVariants as kind
use Rattle.cut_messages.specs.declared.message.Message.{Message}
use Rattle.cut_session.specs.declared.answer.Continuation.{Continuation}
use Rattle.cut_session.specs.declared.answer.Continuation.TheVariants.{On, Over}
use Rattle.cut_session.specs.declared.session_end.SessionEnd.{SessionEnd}
use Rattle.cut_session.specs.declared.session_end.SessionEnd.TheVariants as end
use Rattle.cut_session.specs.declared.session_end.SessionFault.{SessionFault}
use Rattle.cut_session.specs.FaultCode.{code_of_session}
use Rattle.cut_messages.specs.Reading.{Reading, HasReadFrames}
use Rattle.cut_hall.specs.Hall.{HallValue}
use Rattle.cut_session.specs.Answering.{Rises, IsAnswered, AnswersAll, error_frame}
use Rattle.cut_session.specs.Session.{QuitsAtOnce, LastReply, EndsSession}

-- ---- one reply

-- how many bytes a reply has at most
abbrev pub longest_reply : ℕ
longest_reply = 2 ^ 21

-- a reply of which P holds, of at most `most` bytes, was sent, or a write of it failed
abbrev pub Replies : (List ℕ → Type 0) → ℕ → Result ⊤ Sent → Sending → Sending → Type 0
Replies P most result old new = (out : List ℕ) × P out × (length out ≤ most) × Sends result out old new

-- ---- the replies to some messages

-- of one message: the reply to it, or none where it quits
abbrev pub Serves : HallValue → View → View → Message → Result Continuation Sent → Sending → Sending → Type 0
Serves hall low high m (Ok On) old new = Replies (IsAnswered hall low high m) longest_reply (Ok tt) old new
Serves hall low high m (Ok Over) old new = (m.kind ≡ kind.Quit) × Rises low high × (new ≡ old)
Serves hall low high m (Err fault) old new = Replies (IsAnswered hall low high m) longest_reply (Err fault) old new

-- the first of some messages, and replies to them
pub record ServesFirst (hall : HallValue) (low high : View) (messages : List Message) : Type 0 where
  pub answered : List Message
  pub unanswered : List Message
  pub out : List ℕ
  pub parts : messages ≡ answered ++ unanswered
  pub replies : AnswersAll hall low high answered out
  pub short : length out ≤ longest_reply * length answered

-- all of them were answered; or the session ended after those before one that quits, or at one whose reply was
-- not sent whole
abbrev pub ServesAll : HallValue → View → View → List Message → Result ⊤ SessionEnd → Sending → Sending → Type 0
ServesAll hall low high messages (Ok done) old new =
    Replies (AnswersAll hall low high messages) (longest_reply * length messages) (Ok tt) old new
ServesAll hall low high messages (Err end.Quit) old new =
    (f : ServesFirst hall low high messages) × QuitsAtOnce f.unanswered × (new ≡ sent_on old f.out)
ServesAll hall low high messages (Err (end.Write fault)) old new =
    (f : ServesFirst hall low high messages) × (l : LastReply hall low high f.answered f.out)
    × Sends (Err fault) l.reply (sent_on old l.first) new
ServesAll hall low high messages (Err other) old new = ⊥

-- ---- the frame of a fault that ends a session

-- it was sent, or a write of it failed
abbrev pub LeavesSending : SessionFault → SessionEnd → Sending → Sending → Type 0
LeavesSending fault (end.Fault sent) old new = (sent ≡ fault)
    × (new ≡ sent_on old (error_frame (code_of_session fault)))
LeavesSending fault (end.Write failed) old new = Sends (Err failed) (error_frame (code_of_session fault)) old new
LeavesSending fault other old new = ⊥

-- ---- between two reads

-- a wire that took and gave these bytes more
abbrev pub conveyed : List ℕ → List ℕ → Traffic → Traffic
conveyed taken given t = record { taken = t.taken ++ taken; given = t.given ++ given; ends = t.ends }

-- a counting writer by which these bytes were sent, and these read
abbrev pub served : Sending → List ℕ → List ℕ → Sending
served s out given = record {
  wire = s.wire;
  log = passing (conveyed out given) s.log;
  sent = min (s.sent + length out) (2 ^ 64 - 1);
}

-- all messages so far are answered, and no fault stands after them; a piece was given that is not read yet
pub record IsServing (hall : HallValue) (low high : View) (r : Reading) (requests : ℕ) (piece : List ℕ)
    (old now : Sending) : Type 0 where
  pub stream : List ℕ
  pub messages : List Message
  pub out : List ℕ
  pub read : HasReadFrames r stream messages
  pub right : r.fault ≡ None
  pub side : r.side ≡ Requests
  pub many : requests ≡ length messages
  pub replies : AnswersAll hall low high messages out
  pub few : length out ≤ longest_reply * length messages
  pub line : now ≡ served old out (stream ++ piece)

-- how a session ended by a counting writer that had sent nothing before it
abbrev pub ConcludesTable : HallValue → View → View → SessionEnd → Sending → Sending → Type 0
ConcludesTable hall low high end old new = EndsSession hall low high end old.log new.log × (new.wire ≡ old.wire)

-- after a piece the session goes on, and has read more than these bytes, or has ended
abbrev pub Goes : HallValue → View → View → List ℕ → Result ℕ SessionEnd → Reading → Sending → Sending → Type 0
Goes hall low high read (Ok requests) r old new =
    (s : IsServing hall low high r requests [] old new) × (length read < length s.stream)
Goes hall low high read (Err end) r old new = ConcludesTable hall low high end old new
