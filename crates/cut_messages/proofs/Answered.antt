-- What an output takes of replies, one after another.
use Rattle.std.proofs.Common.{◌≡◌, ◌∙◌, ◌+◌, ◌<◌, ◌++◌, ℕ, List, [], ◌∷◌, length, take, drop, get_or, Result, Ok, Err}
use Rattle.std.proofs.Common.{refl, sym, ap, subst, arith, append_assoc, take-append-drop}
use Rattle.std.specs.Bool.{⊤}
use Rattle.std.specs.List.{AllByRecursion}
use Rattle.std.proofs.ByRecursion.{All-append}
use Rattle.std.proofs.lemmas.List.{take_more}
use Rattle.std.proofs.lemmas.List.Concat.{flat_map-append}
use Rattle.cut_wires.specs.Log.{WireLog, wrote, write_failed}
use Rattle.cut_wires.proofs.Logs.{wrote_none, wrote_more}
use Rattle.cut_messages.specs.declared.message.Message.{Message}
use Rattle.cut_messages.specs.declared.fault.AskFault.{AskFault}
use Rattle.cut_messages.specs.declared.fault.AskFault.TheVariants as ask
use Rattle.cut_messages.specs.declared.replies.AnswerState.{AnswerState}
use Rattle.cut_messages.specs.declared.replies.AnswerState.TheVariants.{More, Done}
use Rattle.cut_messages.specs.Asking.{GoesOn, line_of, lines_of, Stop, IsCutOff, Passes}
use Rattle.cut_messages.specs.Reading.{Reading, HasReadFrames}
use Rattle.cut_messages.specs.inside.Listening.{Steps}

-- a reply alone
abbrev pub alone : (m : Message) → Stop (m ∷ [])
alone m = record { before = []; here = m; after = []; parts = refl; passed = tt }

pub line_cut : (payload line : List ℕ) (n : ℕ) (old new : WireLog) → line ≡ payload → n < length line
    → new ≡ write_failed (wrote old (take n line)) → IsCutOff payload (wrote old []) new
line_cut payload line n old new same low is = grind (arith, wrote_none old)

lines_both : (o p q : WireLog) (xs ys : List Message) → p ≡ wrote o (lines_of xs) → q ≡ wrote p (lines_of ys)
    → q ≡ wrote o (lines_of (xs ++ ys))
lines_both o p q xs ys first second =
    cc (wrote_more o p q (lines_of xs) (lines_of ys) first second, flat_map-append line_of xs ys)

abbrev stop_later : (xs ys : List Message) → AllByRecursion GoesOn xs → (s : Stop ys) → Stop (xs ++ ys)
stop_later xs ys passed s = record {
  before = xs ++ s.before;
  here = s.here;
  after = s.after;
  parts = ap (λ (l : List Message). xs ++ l) s.parts ∙ sym (append_assoc xs s.before (s.here ∷ s.after));
  passed = All-append GoesOn xs s.before passed s.passed;
}

abbrev stop_before : (xs ys : List Message) → Stop xs → Stop (xs ++ ys)
stop_before xs ys s = record {
  before = s.before;
  here = s.here;
  after = s.after ++ ys;
  parts = ap (λ (l : List Message). l ++ ys) s.parts ∙ append_assoc s.before (s.here ∷ s.after) ys;
  passed = s.passed;
}

-- replies after others that are passed over
pub passes_then : (xs ys : List Message) (r : Result AnswerState AskFault) (o p q : WireLog)
    → Passes xs (Ok More) o p → Passes ys r p q → Passes (xs ++ ys) r o q
passes_then xs ys (Ok More) o p q first second =
    (All-append GoesOn xs ys first.0 second.0, lines_both o p q xs ys first.1 second.1)
passes_then xs ys (Ok Done) o p q first second =
    (stop_later xs ys first.0 second.0, second.1, lines_both o p q xs second.0.before first.1 second.2)
passes_then xs ys (Err (ask.Reported n)) o p q first second = (
  stop_later xs ys first.0 second.0,
  second.1,
  second.2,
  lines_both o p q xs second.0.before first.1 second.3,
)
passes_then xs ys (Err ask.Output) o p q first second =
    let cut = second.2 in
    let before = lines_both o p (wrote p (lines_of second.0.before)) xs second.0.before first.1 refl in (
      stop_later xs ys first.0 second.0,
      second.1,
      (cut.0, cut.1, cc (cut.2, before)),
    )
passes_then xs ys (Err fault) o p q first second = absurd second

-- the result of a stop
abbrev pub IsStop : Result AnswerState AskFault → Type 0
IsStop (Ok More) = ⊥
IsStop result = ⊤

-- what comes after a stop changes nothing
pub passes_on : (xs ys : List Message) (r : Result AnswerState AskFault) (o p : WireLog) → IsStop r
    → Passes xs r o p → Passes (xs ++ ys) r o p
passes_on xs ys (Ok More) o p stop passes = absurd stop
passes_on xs ys (Ok Done) o p stop passes = (stop_before xs ys passes.0, passes.1, passes.2)
passes_on xs ys (Err (ask.Reported n)) o p stop passes =
    (stop_before xs ys passes.0, passes.1, passes.2, passes.3)
passes_on xs ys (Err ask.Output) o p stop passes = (stop_before xs ys passes.0, passes.1, passes.2)
passes_on xs ys (Err fault) o p stop passes = absurd passes

pub take_next : (ms : List Message) (i : ℕ) (m : Message) → i < length ms → m ≡ get_or ms i m
    → take i ms ++ m ∷ [] ≡ take (i + 1) ms
take_next ms i m low is = cc (is, take_more ms i m low)

pub passes_stop : (ms : List Message) (i : ℕ) (m : Message) (r : Result AnswerState AskFault) (o p q : WireLog)
    → i < length ms → m ≡ get_or ms i m → IsStop r → Passes (take i ms) (Ok More) o p → Passes (m ∷ []) r p q
    → Passes ms r o q
passes_stop ms i m r o p q low is stop first second =
    subst (λ (l : List Message). Passes l r o q) (cc (take_next ms i m low is, take-append-drop (i + 1) ms))
    (passes_on (take i ms ++ m ∷ []) (drop (i + 1) ms) r o q stop
    (passes_then (take i ms) (m ∷ []) r o p q first second))

-- a piece whose replies end the asking
pub stops : (fault : AskFault) (old new : Reading) (stream piece : List ℕ) (messages more : List Message)
    (o p : WireLog) → HasReadFrames new (stream ++ piece) (messages ++ more) → Passes more (Err fault) o p
    → Steps (Err fault) old new stream piece messages o p
stops (ask.Reported n) old new stream piece messages more o p read passes =
    record { more = more; read = read; passes = passes }
stops ask.Output old new stream piece messages more o p read passes =
    record { more = more; read = read; passes = passes }
stops fault old new stream piece messages more o p read passes = absurd passes
