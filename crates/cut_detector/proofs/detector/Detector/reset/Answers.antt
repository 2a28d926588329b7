-- What is left has no reported edge.
use Rattle.std.proofs.Common.{[], ap, sym, subst, arith}
use Rattle.cut_detector.proofs.Words.{HasDelivered, Inside}
use Rattle.cut_detector.proofs.History.{IsEmpty, IsDetector-empty, is_fresh, fresh-delivered}
use Rattle.cut_detector.proofs.detector.Detector.reset.Goals as goal

left : goal.After-self-1 → Inside
left c = record { reports = c.clear.new.self; deliveries = 0; members = c.self.inside.members }

empty : (c : goal.After-self-1) → IsEmpty (left c) c.args.self.now.layout c.args.self.now.rule
unfolding left
empty c = grind arith

pub invariant_of-self : goal.invariant_of-self
unfolding left
invariant_of-self c = IsDetector-empty (left c) _ _ (empty c)
    (omega (arith, c.self.invariant.room, ap (λ r. r.nodes) c.clear.ensures.rings))

pub returns-clause-fresh : goal.returns-clause-fresh
unfolding left
returns-clause-fresh c = is_fresh (left c) _ _ (empty c)

pub returns-clause-empty : goal.returns-clause-empty
unfolding left
returns-clause-empty c = subst (λ x. HasDelivered x []) (sym (is_fresh (left c) _ _ (empty c))) (fresh-delivered _ _)
