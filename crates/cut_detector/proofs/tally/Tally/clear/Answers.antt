-- The touched processes are those of which a ring counts, and then none counts.
use Rattle.std.proofs.Common.{nat_le, arith}
use Rattle.cut_detector.proofs.Words.{IsDistinct-empty, lt-leb}
use Rattle.cut_detector.proofs.Counting.{processes_with-empty, IsTouched-empty, touched-all, touched-each}
use Rattle.cut_detector.proofs.tally.Tally.clear.Goals as goal

pub clear-requires-clause-within : goal.clear-requires-clause-within
clear-requires-clause-within c =
    grind (arith, touched-all c.args.self.now.full c.args.self.now.touched.items c.args.self.now.touches)

pub clear-requires-clause-alone : goal.clear-requires-clause-alone
clear-requires-clause-alone c s some =
    grind (arith, touched-each)

pub invariant_of-self-clause-stable_counted : goal.invariant_of-self-clause-stable_counted
invariant_of-self-clause-stable_counted c =
    let t = c.args.self.now in
    processes_with-empty (λ n. nat_le t.rule.h n) c.clear.new.self _ c.clear.ensures.masks
    (lt-leb t.rule.h 0 (omega (arith, t.rule.low, t.rule.thresholds)))

pub invariant_of-self-clause-marked_counted : goal.invariant_of-self-clause-marked_counted
invariant_of-self-clause-marked_counted c =
    let t = c.args.self.now in
    processes_with-empty (λ n. nat_le t.rule.l n) c.clear.new.self _ c.clear.ensures.masks
    (lt-leb t.rule.l 0 t.rule.low)

pub invariant_of-self-clause-touches : goal.invariant_of-self-clause-touches
invariant_of-self-clause-touches c = IsTouched-empty c.clear.new.self _ c.clear-2.new.self.items c.clear.ensures.masks
    c.clear-2.ensures.items

pub invariant_of-self-clause-distinct : goal.invariant_of-self-clause-distinct
invariant_of-self-clause-distinct c = IsDistinct-empty c.clear-2.new.self.items c.clear-2.ensures.items
