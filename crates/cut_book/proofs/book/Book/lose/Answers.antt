use Rattle.std.proofs.Common.{◌≡◌, ◌∙◌, Bool, true, false, cond, set, get_or}
use Rattle.std.proofs.Common.{refl, sym, ap, arith}
use Rattle.std.proofs.lemmas.List.{length-set}
use Rattle.cut_faults.specs.declared.code.FaultCode.TheVariants as code
use Rattle.cut_ledger.specs.declared.event.Reply.TheVariants as reply
use Rattle.cut_book.specs.declared.call.Call.TheVariants.{Lose}
use Rattle.cut_book.specs.Book.{BookValue}
use Rattle.cut_book.proofs.Legal.{legal_on, followed_lost, state_same, stepped}
use Rattle.cut_book.proofs.Losses.{held_within, one_lost}
use Rattle.cut_book.proofs.book.Book.lose.Goals as goal

noted_reply : (lost : Bool) → lost ≡ false → cond lost (reply.Refused code.BadPiece) reply.Noted ≡ reply.Noted
noted_reply lost e = rw e

pub lose-requires-clause-legal : goal.lose-requires-clause-legal
lose-requires-clause-legal g c =
    let held : get_or c.self.inside.lost c.args.piece true ≡ false =
    ap (λ (p : BookValue _). get_or p.state.lost c.args.piece true) c.self.view_is ∙ sym c.if-is_lost.ensures.value in
    legal_on {mid = c.self.inside.history} (Lose c.args.piece) _ c.self.invariant
    (record { opening = refl; calls = refl; room = refl }) (noted_reply _ held, refl)

pub invariant_of-self : goal.invariant_of-self
invariant_of-self g c =
    let held : get_or c.self.inside.lost c.args.piece true ≡ false =
    ap (λ (p : BookValue _). get_or p.state.lost c.args.piece true) c.self.view_is ∙ sym c.if-is_lost.ensures.value in
    let left = one_lost c.self.inside.lost c.args.piece (held_within c.self.inside.lost c.args.piece held) held in
    let next = state_same c.self.inside.ledger.contents c.self.inside.journal c.self.inside.division
    (set c.self.inside.lost c.args.piece true) c.self.inside.broken c.lose.ensures.noted refl in
    rw (c.set.ensures, next) (stepped c.self.invariant c.lose.ensures.noted
    (noted_reply _ held, refl) refl refl refl (length-set c.self.inside.lost c.args.piece true)
    (omega (arith, left, c.self.invariant.losable))
    (omega (arith, left, c.lose.ensures.room, c.self.invariant.room, c.self.invariant.losable)) refl refl
    c.self.invariant.of_plan c.self.invariant.broken
    (followed_lost g.D.Disk.log c.self.inside.journal _ _ c.self.invariant.followed) c.self.invariant.failures)
