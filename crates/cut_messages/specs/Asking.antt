-- What a client does that asks for one table.
use Rattle.std.specs.Prelude.{◌≡◌, ◌^◌, ◌<◌, ◌≤◌, ◌++◌, ℕ, Bool, true, false, List, [], ◌∷◌}
use Rattle.std.specs.Prelude.{length, take}
use Rattle.std.specs.Prelude.{Some, None, Result, Ok, Err, ⊤}
use Rattle.std.specs.List.{AllByRecursion, flat_map}
use Rattle.std.specs.Int.{w16, from_be_bytes}
use Rattle.cut_messages.specs.declared.client.TheConstants.{READ_SIZE}
use Rattle.cut_messages.specs.declared.side.TheConstants.{LONGEST_PAYLOAD}
use Rattle.cut_faults.specs.Failures.{one_more}
use Rattle.cut_wires.specs.Log.{Traffic, WireLog, passing, wrote, read_failed, write_failed}
use Rattle.cut_messages.specs.declared.side.Side.TheVariants.{Replies}
use Rattle.cut_messages.specs.declared.kind.Kind.{Kind}
use Rattle.cut_messages.specs.declared.kind.Kind.TheVariants as kind
use Rattle.cut_messages.specs.declared.message.Message.{Message}
use Rattle.cut_messages.specs.declared.fault.AskFault.{AskFault}
use Rattle.cut_messages.specs.declared.fault.AskFault.TheVariants as ask
use Rattle.cut_messages.specs.declared.replies.AnswerState.{AnswerState}
use Rattle.cut_messages.specs.declared.replies.AnswerState.TheVariants.{More, Done}
use Rattle.cut_messages.specs.Frames.{frame, fault_at}
use Rattle.cut_messages.specs.Reading.{Splits}

-- what it sends: the plan, and that no further request comes
abbrev pub request : List ℕ → List ℕ
request plan = frame kind.Submit plan ++ frame kind.Quit []

-- some first bytes were written, and not all, when a write failed
abbrev pub IsCutOff : List ℕ → WireLog → WireLog → Type 0
IsCutOff bytes old new = (n : ℕ) × (n < length bytes) × (new ≡ write_failed (wrote old (take n bytes)))

-- whether a reply is the last one: the table is whole, or the request failed
abbrev pub is_last : Kind → Bool
is_last kind.Done = true
is_last kind.Fault = true
is_last other = false

abbrev pub GoesOn : Message → Type 0
GoesOn m = is_last m.kind ≡ false

-- the line of the table that a reply carries
abbrev pub line_in : Kind → List ℕ → List ℕ
line_in kind.Row payload = payload
line_in other payload = []

abbrev pub line_of : Message → List ℕ
line_of m = line_in m.kind m.payload

abbrev pub lines_of : List Message → List ℕ
lines_of messages = flat_map line_of messages

-- a reply at which it stops: none before it is a last one
pub record Stop (messages : List Message) : Type 0 where
  pub before : List Message
  pub here : Message
  pub after : List Message
  pub parts : messages ≡ before ++ here ∷ after
  pub passed : AllByRecursion GoesOn before

-- what an output took of replies: the lines of all of them, if none is a last one; or those before the one at which it
-- stops, which says that the table is whole, or has a fault's number, or has a line of which a part was written
abbrev pub Passes : List Message → Result AnswerState AskFault → WireLog → WireLog → Type 0
Passes messages (Ok More) old new =
    AllByRecursion GoesOn messages × (new ≡ wrote old (lines_of messages))
Passes messages (Ok Done) old new =
    (s : Stop messages) × (s.here.kind ≡ kind.Done) × (new ≡ wrote old (lines_of s.before))
Passes messages (Err (ask.Reported n)) old new =
    (s : Stop messages) × (s.here.kind ≡ kind.Fault) × (n ≡ from_be_bytes w16 s.here.payload)
    × (new ≡ wrote old (lines_of s.before))
Passes messages (Err ask.Output) old new =
    (s : Stop messages) × (s.here.kind ≡ kind.Row)
    × IsCutOff s.here.payload (wrote old (lines_of s.before)) new
Passes messages (Err fault) old new = ⊥

-- why it stopped, where it sent its request, and what its output took then, by the replies of the
-- stream that was read and by what comes after them
abbrev pub ConcludesAnswer : Result ⊤ AskFault → List ℕ → List Message → List ℕ → WireLog → WireLog → Type 0
ConcludesAnswer (Ok done) stream messages rest old new = Passes messages (Ok Done) old new
ConcludesAnswer (Err (ask.Reported n)) stream messages rest old new =
    Passes messages (Err (ask.Reported n)) old new
ConcludesAnswer (Err ask.Output) stream messages rest old new = Passes messages (Err ask.Output) old new
ConcludesAnswer (Err ask.Memory) stream messages rest old new = Passes messages (Ok More) old new
ConcludesAnswer (Err (ask.Stream fault)) stream messages rest old new =
    Passes messages (Ok More) old new × (fault_at Replies rest ≡ Some fault)
ConcludesAnswer (Err ask.Endless) stream messages rest old new =
    Passes messages (Ok More) old new × (fault_at Replies rest ≡ None) × (2 ^ 32 ≤ length stream)
ConcludesAnswer (Err ask.Truncated) stream messages rest old new =
    Passes messages (Ok More) old new × (fault_at Replies rest ≡ None)
ConcludesAnswer (Err ask.Read) stream messages rest old new =
    Passes messages (Ok More) old new × (fault_at Replies rest ≡ None)
ConcludesAnswer (Err ask.PlanTooLong) stream messages rest old new = ⊥
ConcludesAnswer (Err ask.Request) stream messages rest old new = ⊥

-- what the last read gave and no reader took: nothing, but if memory ran out
abbrev pub IsUnread : Result ⊤ AskFault → List ℕ → Type 0
IsUnread (Err ask.Memory) last = length last ≤ READ_SIZE
IsUnread result last = last ≡ []

-- a wire that took the request, and gave these bytes
abbrev pub asked : List ℕ → List ℕ → Traffic → Traffic
asked plan given t =
    record { taken = t.taken ++ request plan; given = t.given ++ given; ends = t.ends }

abbrev pub heard : List ℕ → List ℕ → WireLog → WireLog
heard plan given l = passing (asked plan given) l

-- and whose last read gave the end exactly if the answer ended before the table did, and failed exactly if that is the
-- fault
abbrev pub ended : Traffic → Traffic
ended t = record { taken = t.taken; given = t.given; ends = one_more t.ends }

abbrev pub left_by : Result ⊤ AskFault → WireLog → WireLog
left_by (Err ask.Truncated) l = passing ended l
left_by (Err ask.Read) l = read_failed l
left_by result l = l

-- the whole request was sent, a stream was read, and the asking ended for what stands in it
pub record Hears (plan : List ℕ) (result : Result ⊤ AskFault) (old new out_old out_new : WireLog)
    : Type 0 where
  pub stream : List ℕ
  pub messages : List Message
  pub rest : List ℕ
  pub last : List ℕ
  pub splits : Splits Replies stream messages rest
  pub ends : ConcludesAnswer result stream messages rest out_old out_new
  pub unread : IsUnread result last
  pub wire : new ≡ left_by result (heard plan (stream ++ last) old)

-- what passed over the wire and the output, and which calls failed: nothing, if the plan is too long; a part of the
-- request, if a write of it failed; else the request and an answer. Of a wire of which nothing is known there is some
-- answer of which the output took the lines.
abbrev pub Asks : List ℕ → Result ⊤ AskFault → WireLog → WireLog → WireLog → WireLog → Type 0
Asks plan (Err ask.PlanTooLong) old new out_old out_new =
    (LONGEST_PAYLOAD < length plan) × (new ≡ old) × (out_new ≡ out_old)
Asks plan (Err ask.Request) old new out_old out_new =
    (length plan ≤ LONGEST_PAYLOAD) × IsCutOff (request plan) old new × (out_new ≡ out_old)
Asks plan result old new out_old out_new =
    (length plan ≤ LONGEST_PAYLOAD) × Hears plan result old new out_old out_new
