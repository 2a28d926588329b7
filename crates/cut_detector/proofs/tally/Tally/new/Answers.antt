-- In empty masks no process is stable or unstable.
use Rattle.std.proofs.Common.{nat_le, arith}
use Rattle.cut_detector.proofs.Words.{IsDistinct-empty, lt-leb}
use Rattle.cut_detector.proofs.Counting.{processes_with-empty, IsTouched-empty}
use Rattle.cut_detector.proofs.tally.Tally.new.Goals as goal

pub invariant_of-result-clause-stable_counted : goal.invariant_of-result-clause-stable_counted
invariant_of-result-clause-stable_counted c =
    processes_with-empty (λ n. nat_le c.args.rule.h n) c.in_ok-full.full _ c.in_ok-full.ensures.masks
    (lt-leb c.args.rule.h 0 (omega (arith, c.args.rule.low, c.args.rule.thresholds)))

pub invariant_of-result-clause-marked_counted : goal.invariant_of-result-clause-marked_counted
invariant_of-result-clause-marked_counted c =
    processes_with-empty (λ n. nat_le c.args.rule.l n) c.in_ok-full.full _ c.in_ok-full.ensures.masks
    (lt-leb c.args.rule.l 0 c.args.rule.low)

pub invariant_of-result-clause-touches : goal.invariant_of-result-clause-touches
invariant_of-result-clause-touches c = IsTouched-empty c.in_ok-full.full _ c.in_ok-touched.touched.items
    c.in_ok-full.ensures.masks c.in_ok-touched.ensures.items

pub invariant_of-result-clause-distinct : goal.invariant_of-result-clause-distinct
invariant_of-result-clause-distinct c = IsDistinct-empty c.in_ok-touched.touched.items c.in_ok-touched.ensures.items
