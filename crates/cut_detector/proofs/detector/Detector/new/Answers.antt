-- What is made has no reported edge.
use Rattle.std.proofs.Common.{[], ap, sym, subst, arith}
use Rattle.cut_detector.proofs.Words.{HasDelivered, Inside, rule_of}
use Rattle.cut_detector.proofs.History.{IsEmpty, IsDetector-empty, is_fresh, fresh-delivered}
use Rattle.cut_detector.proofs.detector.Detector.new.Goals as goal

made : goal.In_ok-reports → Inside
made c = record { reports = c.in_ok-reports.reports; deliveries = 0; members = c.in_ok-members.members }

empty : (c : goal.In_ok-reports) → IsEmpty (made c) c.args.rings.now
    (rule_of c.args.k c.args.h c.args.l c.args.implicit)
unfolding made
empty c = grind arith

pub invariant_of-result : goal.invariant_of-result
unfolding made
invariant_of-result c = IsDetector-empty (made c) _ _ (empty c)
    (omega (arith, c.in_ok-members.ensures.exact, ap (λ r. r.nodes) c.in_ok-reports.ensures.rings))

pub returns-clause-made : goal.returns-clause-made
unfolding made
returns-clause-made c = is_fresh (made c) _ _ (empty c)

pub returns-clause-empty : goal.returns-clause-empty
unfolding made
returns-clause-empty c = subst (λ x. HasDelivered x []) (sym (is_fresh (made c) _ _ (empty c))) (fresh-delivered _ _)
