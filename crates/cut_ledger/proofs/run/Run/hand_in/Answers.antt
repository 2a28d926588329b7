use Rattle.std.proofs.Common.{◌≡◌, ◌∙◌, ◌++◌, ◌∷◌, [], ap, refl}
use Rattle.cut_ledger.proofs.Words.{Computed, IsReached, Slip, StudyState, state_of, taken, with_piece}
use Rattle.cut_ledger.proofs.Events.{Accepts, can_take, taken_reached, sent_reached, own_plan}
use Rattle.cut_ledger.proofs.run.Run.hand_in.Goals as goal

-- the state after a result that is taken, by its ledger and what is kept
took : (s t : StudyState) (r : Computed) → IsReached s.ledger.plan s → Accepts s.ledger.plan s r → t.ledger
    ≡ with_piece s.ledger r.piece → t.kept ≡ (taken s r).kept → t.doubtful ≡ s.doubtful → t.broken ≡ s.broken
    → t.sent ≡ s.sent → IsReached t.ledger.plan t
took s t r h accepted ledger kept doubtful broken sent =
    let full = taken_reached s.ledger.plan s r h accepted in
    own_plan s.ledger.plan t (sent_reached s.ledger.plan (taken s r) t full ledger kept doubtful broken
    (rw sent full.sent))

pub invariant_of-self-in-Continue-branch-3 : goal.invariant_of-self-in-Continue-branch-3
invariant_of-self-in-Continue-branch-3 c =
    let s : StudyState = state_of c.self.inside in
    let kept : c.push.new.self.items ≡ (taken s c.args.offered.now).kept =
    c.in_ok-push.ensures.items ∙ rw (c.in_ok-reserve.ensures.items, c.if-self.true)
    (ap (λ (slip : Slip). s.kept ++ slip ∷ []) c.slip_of-slip.ensures.slip) in
    took s _ c.args.offered.now c.self.invariant (can_take s.ledger.plan s c.args.offered.now c.self.invariant
    (rw (← c.self.view_is) at c.in_default.ensures.unbroken) (rw (← c.self.view_is) at c.in_default.ensures.none)
    c.slip_of-slip.ensures.piece) c.in_ok-take.ensures.ok kept refl refl refl

pub invariant_of-self-else-self : goal.invariant_of-self-else-self
invariant_of-self-else-self c =
    let s : StudyState = state_of c.self.inside in
    took s _ c.args.offered.now c.self.invariant (can_take s.ledger.plan s c.args.offered.now c.self.invariant
    (rw (← c.self.view_is) at c.in_default.ensures.unbroken) (rw (← c.self.view_is) at c.in_default.ensures.none)
    c.slip_of-slip.ensures.piece) c.in_ok-take.ensures.ok (rw (c.in_ok-reserve.ensures.items, c.if-self.false))
    refl refl refl
