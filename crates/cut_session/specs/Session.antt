-- How a session goes and how it ends.
use Rattle.std.specs.Prelude.{◌≡◌, ◌<◌, ◌≤◌, ◌⊎◌, ◌++◌, ℕ, List, [], ◌∷◌, length, take, Some, None}
use Rattle.cut_session.specs.declared.serve.TheConstants.{MOST_REQUESTS, READ_SIZE}
use Rattle.cut_faults.specs.Failures.{one_more}
use Rattle.cut_board.specs.declared.view.View.{View}
use Rattle.cut_wires.specs.Log.{Traffic, WireLog, passing, read_failed, write_failed}
use Rattle.cut_messages.specs.declared.side.Side.TheVariants.{Requests}
use Rattle.cut_messages.specs.declared.kind.Kind.TheVariants as kind
use Rattle.cut_messages.specs.declared.message.Message.{Message}
use Rattle.cut_session.specs.declared.session_end.SessionEnd.{SessionEnd}
use Rattle.cut_session.specs.declared.session_end.SessionEnd.TheVariants.{Quit, EndOfInput, Fault, Write}
use Rattle.cut_session.specs.declared.session_end.SessionFault.{SessionFault}
use Rattle.cut_session.specs.declared.session_end.SessionFault.TheVariants as session
use Rattle.cut_session.specs.FaultCode.{code_of_session}
use Rattle.cut_messages.specs.Frames.{fault_at}
use Rattle.cut_messages.specs.Reading.{Splits}
use Rattle.cut_hall.specs.Hall.{HallValue}
use Rattle.cut_session.specs.Answering.{AnswersAll, error_frame}

-- how many requests a session answers
abbrev pub request_limit : ℕ
request_limit = MOST_REQUESTS

-- what a session has read and replied: a stream, its messages, of which the first ones are answered, and the
-- bytes after them; what the last read gave and no reader took; and the replies
pub record SessionTrace : Type 0 where
  pub stream : List ℕ
  pub answered : List Message
  pub unanswered : List Message
  pub rest : List ℕ
  pub last : List ℕ
  pub out : List ℕ

-- the messages are those of the stream, no more are answered than may be, and the replies are some that a hall may
-- give, if the session had seen low at its begin and has seen high
pub record IsSessionTrace (hall : HallValue) (low high : View) (c : SessionTrace) : Type 0 where
  pub splits : Splits Requests c.stream (c.answered ++ c.unanswered) c.rest
  pub few : length c.answered ≤ request_limit
  pub replies : AnswersAll hall low high c.answered c.out

-- every message is answered, and every byte that was given was read
abbrev pub IsAnswered : SessionTrace → Type 0
IsAnswered c = (c.unanswered ≡ []) × (c.last ≡ [])

-- the first of some messages quits
abbrev pub QuitsAtOnce : List Message → Type 0
QuitsAtOnce [] = ⊥
QuitsAtOnce (m ∷ ms) = m.kind ≡ kind.Quit

-- a fault ends the session: memory ran out for what the last read gave; or the input cannot go on, or
-- goes on no further, after the messages that are answered; or there are more messages than may be answered
abbrev pub IsDue : SessionFault → SessionTrace → Type 0
IsDue session.Memory c =
    (c.unanswered ≡ []) × (0 < length c.last) × (length c.last ≤ READ_SIZE) × (fault_at Requests c.rest ≡ None)
IsDue session.Read c = IsAnswered c × (fault_at Requests c.rest ≡ None)
IsDue session.Truncated c = IsAnswered c × (fault_at Requests c.rest ≡ None) × (c.rest ≡ [] → ⊥)
IsDue session.TooManyRequests c =
    (length c.answered ≡ request_limit) × (0 < length c.unanswered) × (c.last ≡ [])
IsDue (session.Stream fault) c = IsAnswered c × (fault_at Requests c.rest ≡ Some fault)

-- ---- what passed over the wire

-- the replies with the frame of the fault that ended the session
abbrev pub replies_to : SessionFault → SessionTrace → List ℕ
replies_to fault c = c.out ++ error_frame (code_of_session fault)

-- a wire that gave what the session read, and took these bytes
abbrev pub gave_and_took : SessionTrace → List ℕ → Traffic → Traffic
gave_and_took c taken t =
    record { taken = t.taken ++ taken; given = t.given ++ (c.stream ++ c.last); ends = t.ends }

abbrev pub passed : SessionTrace → List ℕ → WireLog → WireLog
passed c taken l = passing (gave_and_took c taken) l

-- and whose last read gave the end of the input
abbrev pub with_end : Traffic → Traffic
with_end t = record { taken = t.taken; given = t.given; ends = one_more t.ends }

abbrev pub ended : WireLog → WireLog
ended l = passing with_end l

-- what the last read did, if this fault is due: it gave the end, or it failed
abbrev pub read_by : SessionFault → WireLog → WireLog
read_by session.Truncated l = ended l
read_by session.Read l = read_failed l
read_by fault l = l

-- the last of the messages that are answered, with the replies to those before it and the reply to it
pub record LastReply (hall : HallValue) (low high : View) (answered : List Message) (out : List ℕ) : Type 0 where
  pub before : List Message
  pub here : Message
  pub middle : View
  pub first : List ℕ
  pub reply : List ℕ
  pub parts : answered ≡ before ++ here ∷ []
  pub replies : AnswersAll hall low middle before first
  pub answers : AnswersAll hall middle high (here ∷ []) reply
  pub joined : out ≡ first ++ reply

-- a write failed of the last reply: those before it were sent whole, and it was not
abbrev pub CutsReply : HallValue → View → View → ℕ → SessionTrace → WireLog → WireLog → Type 0
CutsReply hall low high sent c old new =
    (l : LastReply hall low high c.answered c.out) × (length l.first ≤ sent) × (sent < length c.out) × (c.last ≡ [])
    × (new ≡ write_failed (passed c (take sent c.out) old))

-- a write of the frame failed that has the fault which ended the session
abbrev pub CutsEnd : ℕ → SessionTrace → WireLog → WireLog → Type 0
CutsEnd sent c old new =
    (fault : SessionFault) × IsDue fault c × (length c.out ≤ sent) × (sent < length (replies_to fault c))
    × (new ≡ write_failed (read_by fault (passed c (take sent (replies_to fault c)) old)))

-- how a session ends, what its wire took and gave, and which calls failed: all replies to the messages before one that
-- quits; all replies, if the input ended after them; the replies and the fault's frame; or exactly as many of the first
-- bytes of these as are reported, if a write failed
abbrev pub EndsSessionAs : HallValue → View → View → SessionEnd → SessionTrace → WireLog → WireLog → Type 0
EndsSessionAs hall low high Quit c old new =
    QuitsAtOnce c.unanswered × (length c.answered < request_limit) × (c.last ≡ []) × (new ≡ passed c c.out old)
EndsSessionAs hall low high EndOfInput c old new =
    IsAnswered c × (c.rest ≡ []) × (new ≡ ended (passed c c.out old))
EndsSessionAs hall low high (Fault fault) c old new =
    IsDue fault c × (new ≡ read_by fault (passed c (replies_to fault c) old))
EndsSessionAs hall low high (Write fault) c old new =
    CutsReply hall low high fault.sent c old new ⊎ CutsEnd fault.sent c old new

-- of a wire of which nothing is known there is some trace of which this is so
abbrev pub EndsSession : HallValue → View → View → SessionEnd → WireLog → WireLog → Type 0
EndsSession hall low high end old new = (c : SessionTrace) × IsSessionTrace hall low high c
    × EndsSessionAs hall low high end c old new
