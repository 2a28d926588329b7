-- What a client makes of a piece of an answer.
use Rattle.std.specs.Prelude.{◌≡◌, ◌++◌, ℕ, List, Some, None, Result, Ok, Err}
use Rattle.cut_wires.specs.Log.{WireLog}
use Rattle.cut_messages.specs.declared.message.Message.{Message}
use Rattle.cut_messages.specs.declared.fault.AskFault.{AskFault}
use Rattle.cut_messages.specs.declared.fault.AskFault.TheVariants as ask
use Rattle.cut_messages.specs.declared.replies.AnswerState.{AnswerState}
use Rattle.cut_messages.specs.declared.replies.AnswerState.TheVariants.{More}
use Rattle.cut_messages.specs.Reading.{Reading, HasReadFrames}
use Rattle.cut_messages.specs.Asking.{Passes}

-- a piece of an answer was read, and the output took of its replies what it takes with this result
pub record Step (new : Reading) (stream piece : List ℕ) (messages : List Message)
    (result : Result AnswerState AskFault) (out_old out_new : WireLog) : Type 0 where
  pub more : List Message
  pub read : HasReadFrames new (stream ++ piece) (messages ++ more)
  pub passes : Passes more result out_old out_new

abbrev pub Steps : Result AnswerState AskFault → Reading → Reading → List ℕ → List ℕ → List Message
    → WireLog → WireLog → Type 0
Steps (Ok More) old new stream piece messages o p =
    Step new stream piece messages (Ok More) o p × (new.fault ≡ None)
Steps (Err (ask.Stream fault)) old new stream piece messages o p =
    Step new stream piece messages (Ok More) o p × (new.fault ≡ Some fault)
Steps (Err ask.Memory) old new stream piece messages o p = (new ≡ old) × (p ≡ o)
Steps result old new stream piece messages o p = Step new stream piece messages result o p
