use Rattle.cut_detector.proofs.Words.{rule_in}
use Rattle.cut_detector.proofs.Settling.{HoldsFull_empty}
use Rattle.cut_detector.proofs.reports.Reports.new.Goals as goal

pub invariant_of-result-clause-full : goal.invariant_of-result-clause-full
invariant_of-result-clause-full c =
    let t = c.in_ok-tally.tally in
    HoldsFull_empty c.args.rings.now (rule_in t.rule) _ _ _ _ t.rule.low c.in_ok-reported.ensures.masks
    c.in_ok-tally.ensures.full
