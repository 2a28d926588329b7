-- The subject enters the reported processes, or stays as it is.
use Rattle.std.proofs.Common.{rules}
use Rattle.cut_detector.proofs.Entering.{enters, HoldsFull-waiting, HoldsFull-entered}
use Rattle.cut_detector.proofs.reports.Reports.add.Goals as goal

pub enter-requires-clause-reported : goal.enter-requires-clause-reported
enter-requires-clause-reported c = (enters c.args.self.now c.add.new.self c.add-2.new.self c.args.edge _ (search rules)
    c.if-add.true).0

pub invariant_of-self-clause-full : goal.invariant_of-self-clause-full
invariant_of-self-clause-full c =
    HoldsFull-entered c.args.self.now c.add.new.self c.add-2.new.self c.args.edge _ (search rules) c.enter.new.tally
    c.if-add.true c.enter.ensures.rule c.enter.ensures.full.full

pub invariant_of-self-else-add-clause-full : goal.invariant_of-self-else-add-clause-full
invariant_of-self-else-add-clause-full c =
    HoldsFull-waiting c.args.self.now c.add.new.self c.add-2.new.self c.args.edge _ (search rules) c.if-add.false
