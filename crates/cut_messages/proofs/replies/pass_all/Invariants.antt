use Rattle.std.proofs.Common.{Ok, take}
use Rattle.cut_messages.specs.declared.replies.AnswerState.TheVariants.{More}
use Rattle.cut_messages.specs.Asking.{Passes}
use Rattle.cut_messages.proofs.replies.pass_all.Given as goal

-- none of the replies so far is a last one, and the output took their lines
abbrev pub invariant-loop-message : goal.invariant-loop-message
invariant-loop-message g l =
    Passes (take l.message-index l.messages) (Ok More) (g.O.Wire.log l.fn.output) (g.O.Wire.log l.output)
