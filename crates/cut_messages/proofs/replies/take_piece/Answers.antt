use Rattle.std.proofs.Common.{Err, subst}
use Rattle.cut_messages.specs.Asking.{Passes}
use Rattle.cut_messages.proofs.Answered.{stops}
use Rattle.cut_messages.proofs.replies.take_piece.Goals as goal

pub returns-clause-steps : goal.returns-clause-steps
returns-clause-steps g c = λ stream messages has.
    let o = g.O.Wire.log c.args.output.now in
    let p = g.O.Wire.log c.pass_all.new.output in
    stops c.in-Err-pass_all.fault c.args.reader.now c.feed.new.self stream c.args.piece.now messages
    c.in-Ok.fed.messages.items o p (c.in-Ok.ensures.reads stream messages has)
    (subst (λ l. Passes l (Err c.in-Err-pass_all.fault) o p) c.as_slice.ensures.value c.in-Err-pass_all.ensures)
