-- The tests of the code are those of the definition, in its order.
use Rattle.std.proofs.Common.{◌≡◌, ℕ, Bool, true, false, sym, arith}
use Rattle.cut_sets.specs.ranges.Held.{has}
use Rattle.cut_ledger.proofs.Words.{Piece, list_any, trials_in}
use Rattle.cut_ledger.proofs.RefusalLemmas.{same_plan}
use Rattle.cut_ledger.proofs.ledger.Ledger.refusal.Goals as goal

-- what the set answered of the piece
met : (test : ℕ → Bool) (p q : Piece) (b : Bool) → q ≡ p → b ≡ list_any test (trials_in q) → list_any test (trials_in p)
    ≡ b
met test p q b same reported = rw same at (sym reported)

pub returns-then-not-same-clause-value : goal.returns-then-not-same-clause-value
returns-then-not-same-clause-value c =
    let same = same_plan c.self.inside.plan _ false (rw c.plan.ensures at c.if-not-same.ensures.texts) in
    rw (← c.self.view_is) (grind (arith, same))

pub returns-then-overlaps-clause-value : goal.returns-then-overlaps-clause-value
returns-then-overlaps-clause-value c =
    let l = c.self.inside in
    let same = same_plan l.plan _ true (rw c.plan.ensures at c.if-not-same.ensures.texts) in
    let over = met (has l.held_trials.trials) c.args.offered.now.piece c.piece.result true c.piece.ensures.value
    c.if-overlaps.ensures in
    rw (← c.self.view_is) (grind (arith, same, over))

pub returns-clause-value : goal.returns-clause-value
returns-clause-value c =
    let l = c.self.inside in
    let same = same_plan l.plan _ true (rw c.plan.ensures at c.if-not-same.ensures.texts) in
    let free = met (has l.held_trials.trials) c.args.offered.now.piece c.piece.result false c.piece.ensures.value
    c.if-overlaps.ensures in
    rw (← c.self.view_is) (grind (arith, same, free))

pub returns-clause-none : goal.returns-clause-none
returns-clause-none c = grind arith
