use Rattle.std.proofs.Common.{arith}
use Rattle.cut_alerts.proofs.Suspects.{no_alert}
use Rattle.cut_alerts.proofs.alerted.suspects.Goals as goal

pub returns-clause-others : goal.returns-clause-others
returns-clause-others g c =
    no_alert c.args.rings.now c.nodes-process-end.ensures.layout c.args.roles.now c.args.k c.loop-process.suspects
    c.requires.rings (λ p below. c.loop-process.invariant.seen p (omega arith))
