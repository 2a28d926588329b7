use Rattle.std.proofs.Common.{arith}
use Rattle.cut_alerts.proofs.Legal.{times_named-lists}
use Rattle.cut_alerts.proofs.given.GivenLists.name_once.Goals as goal

pub returns : goal.returns
returns c =
    let lists = c.args.self.now in
    grind (arith, times_named-lists lists.crashed.now lists.deaf.now lists.liars.now lists.links.now c.args.process)
