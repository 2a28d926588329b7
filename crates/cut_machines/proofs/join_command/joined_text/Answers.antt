use Rattle.cut_machines.proofs.JoinText.{line_is}
use Rattle.cut_machines.proofs.join_command.joined_text.Goals as goal

pub returns-clause-text : goal.returns-clause-text
returns-clause-text c =
    line_is c.args.plan.now c.args.slips.now c.args.count c.trials_held-held.result c.trials-trials.result _
    c.requires.count c.trials_held-held.ensures c.trials-trials.ensures.value c.in_ok-format.ensures.ok
