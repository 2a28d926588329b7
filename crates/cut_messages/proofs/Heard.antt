-- An answer that is heard read by read.
use Rattle.std.proofs.Common.{◌≡◌, ◌∙◌, ◌+◌, ◌^◌, ◌<◌, ◌≤◌, ◌++◌, ℕ, List, [], length, take, Some, None}
use Rattle.std.proofs.Common.{Result, Ok, Err, refl, sym, ap, subst, arith, append_assoc, append-nil, length-append}
use Rattle.std.proofs.Common.{length-take-le}
use Rattle.std.specs.Bool.{⊤}
use Rattle.cut_wires.specs.Log.{WireLog, passing, with_given, gave, read_failed}
use Rattle.cut_wires.proofs.Logs.{passing_same}
use Rattle.cut_messages.specs.declared.side.Side.TheVariants.{Replies}
use Rattle.cut_messages.specs.declared.message.Message.{Message}
use Rattle.cut_messages.specs.declared.fault.AskFault.{AskFault}
use Rattle.cut_messages.specs.declared.fault.AskFault.TheVariants as ask
use Rattle.cut_messages.specs.declared.replies.AnswerState.{AnswerState}
use Rattle.cut_messages.specs.declared.replies.AnswerState.TheVariants.{More, Done}
use Rattle.cut_messages.specs.Frames.{fault_at}
use Rattle.cut_messages.specs.Reading.{Reading, HasReadFrames}
use Rattle.cut_messages.specs.Asking.{heard, ended, left_by, Passes, ConcludesAnswer, IsUnread, Hears}
use Rattle.cut_messages.specs.Asking.{Asks}
use Rattle.cut_messages.specs.inside.Listening.{Step, Steps}
use Rattle.cut_messages.proofs.Answered.{passes_then}

-- a client that listens: the request was sent, and the answer so far has no last reply and no fault
pub record Listens (plan : List ℕ) (r : Reading) (reads : ℕ) (old now o p : WireLog) : Type 0 where
  pub stream : List ℕ
  pub messages : List Message
  pub read : HasReadFrames r stream messages
  pub right : r.fault ≡ None
  pub side : r.side ≡ Replies
  pub long : reads ≤ length stream
  pub wire : now ≡ heard plan stream old
  pub passed : Passes messages (Ok More) o p

-- ---- what passed over its wire

-- what a read gives comes after what was heard
wire_on : (plan stream buffer : List ℕ) (n : ℕ) (old mid new : WireLog) → mid ≡ heard plan stream old
    → new ≡ gave mid buffer n → 0 < n → new ≡ heard plan (stream ++ take n buffer) old
wire_on plan stream buffer n old mid new before is some =
    grind (arith, append_assoc)

wire_still : (plan stream : List ℕ) (old new : WireLog) → new ≡ heard plan stream old
    → new ≡ heard plan (stream ++ []) old
wire_still plan stream old new is = cc (append-nil stream)

-- or it is the end
wire_ends : (plan stream buffer : List ℕ) (n : ℕ) (old mid new : WireLog) → mid ≡ heard plan stream old
    → new ≡ gave mid buffer n → n ≡ 0 → new ≡ passing ended (heard plan (stream ++ []) old)
wire_ends plan stream buffer n old mid new before is none =
    cc (passing_same (λ t. with_given t buffer 0) ended mid (λ t. cc (append-nil t.given)), append-nil stream)

-- ---- what was read

module _ {plan : List ℕ} {r : Reading} {reads : ℕ} {old now o p : WireLog} (l : Listens plan r reads old now o p) where
  -- the asking ended with what was heard before the last read
  still : (x : Result ⊤ AskFault) (last : List ℕ) (new : WireLog)
      → ConcludesAnswer x l.stream l.messages l.read.rest o p
      → IsUnread x last → new ≡ left_by x (heard plan (l.stream ++ last) old) → Hears plan x old new o p
  still x last new ends unread wire = record {
    stream = l.stream;
    messages = l.messages;
    rest = l.read.rest;
    last = last;
    splits = rw l.side at l.read.splits;
    ends = ends;
    unread = unread;
    wire = wire;
  }

  -- a client that listens has the lines of what it heard, and no fault stands after it
  so_far : Passes l.messages (Ok More) o p × (fault_at Replies l.read.rest ≡ None)
  so_far = (l.passed, cc (l.side, l.read.fault, l.right))

  pub unread : (new : WireLog) → new ≡ read_failed now → Hears plan (Err ask.Read) old new o p
  unread new is = still (Err ask.Read) [] new so_far refl
      (is ∙ ap read_failed (wire_still plan l.stream old now l.wire))

  pub truncated : (buffer : List ℕ) (n : ℕ) (new : WireLog) → new ≡ gave now buffer n → n ≡ 0
      → Hears plan (Err ask.Truncated) old new o p
  truncated buffer n new is none =
      still (Err ask.Truncated) [] new so_far refl (wire_ends plan l.stream buffer n old now new l.wire is none)

  pub endless : 2 ^ 32 ≤ reads → Hears plan (Err ask.Endless) old now o p
  endless many =
      still (Err ask.Endless) [] now (so_far.0, so_far.1, omega (arith, l.long, many)) refl
      (wire_still plan l.stream old now l.wire)

-- ---- a read, and what was made of the bytes that it gave

module _ {plan : List ℕ} {r : Reading} {reads : ℕ} {old now o p : WireLog} (l : Listens plan r reads old now o p)
    (buffer : List ℕ) (n : ℕ) (next : Reading) (new q : WireLog) (gives : new ≡ gave now buffer n) (some : 0 < n)
    (within : n ≤ length buffer) (side : next.side ≡ r.side) where
  pub goes_on : Steps (Ok More) r next l.stream (take n buffer) l.messages p q
      → Listens plan next (reads + 1) old new o q
  goes_on (s, right) = record {
    stream = l.stream ++ take n buffer;
    messages = l.messages ++ s.more;
    read = s.read;
    right = right;
    side = side ∙ l.side;
    long = omega (arith, l.long, some, length-take-le n buffer within, length-append l.stream (take n buffer));
    wire = wire_on plan l.stream buffer n old now new l.wire gives some;
    passed = passes_then l.messages s.more (Ok More) o p q l.passed s.passes;
  }

  -- the asking ended with the replies of that piece
  ends_with : (y : Result ⊤ AskFault) (z : Result AnswerState AskFault)
      → (s : Step next l.stream (take n buffer) l.messages z p q)
      → ConcludesAnswer y (l.stream ++ take n buffer) (l.messages ++ s.more) s.read.rest o q → IsUnread y []
      → ((m : WireLog) → left_by y m ≡ m) → Hears plan y old new o q
  ends_with y z s ends none left = record {
    stream = l.stream ++ take n buffer;
    messages = l.messages ++ s.more;
    rest = s.read.rest;
    last = [];
    splits = rw (side ∙ l.side) at s.read.splits;
    ends = ends;
    unread = none;
    wire = wire_still plan (l.stream ++ take n buffer) old new
        (wire_on plan l.stream buffer n old now new l.wire gives some)
        ∙ sym (left (heard plan ((l.stream ++ take n buffer) ++ []) old));
  }

  -- what its replies make of the output
  passes_all : (z : Result AnswerState AskFault) → (s : Step next l.stream (take n buffer) l.messages z p q)
      → Passes (l.messages ++ s.more) z o q
  passes_all z s = passes_then l.messages s.more z o p q l.passed s.passes

  pub is_done : Steps (Ok Done) r next l.stream (take n buffer) l.messages p q → Hears plan (Ok tt) old new o q
  is_done s = ends_with (Ok tt) (Ok Done) s (passes_all (Ok Done) s) refl (λ m. refl)

  pub has_failed : (fault : AskFault) → Steps (Err fault) r next l.stream (take n buffer) l.messages p q
      → length buffer ≤ 4096 → length plan ≤ 65536 → Asks plan (Err fault) old new o q
  has_failed (ask.Reported k) s short few = (
    few,
    ends_with (Err (ask.Reported k)) (Err (ask.Reported k)) s (passes_all (Err (ask.Reported k)) s) refl
        (λ m. refl),
  )
  has_failed ask.Output s short few =
      (few, ends_with (Err ask.Output) (Err ask.Output) s (passes_all (Err ask.Output) s) refl (λ m. refl))
  has_failed (ask.Stream f) (s, is) short few =
      let wrong : fault_at Replies s.read.rest ≡ Some f = cc (side, l.side, s.read.fault, is) in
      (few, ends_with (Err (ask.Stream f)) (Ok More) s (passes_all (Ok More) s, wrong) refl (λ m. refl))
  has_failed ask.Memory (same, taken) short few = (
    few,
    subst (λ (out : WireLog). Hears plan (Err ask.Memory) old new o out) (sym taken)
        (still l (Err ask.Memory) (take n buffer) new l.passed
        (omega (arith, length-take-le n buffer within, short, within))
        (wire_on plan l.stream buffer n old now new l.wire gives some)),
  )
  has_failed fault s short few = absurd s.passes
