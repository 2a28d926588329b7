use Rattle.std.proofs.Common.{unwrap_or, ap, ◌∙◌}
use Rattle.cut_outcome.proofs.FastRound.{votes-shown}
use Rattle.cut_trial.proofs.ballot.Ballot.votes_for.Goals as goal

pub returns : goal.returns
returns c = λ cast h.
    c.unwrap_or.ensures ∙ ap (λ o. unwrap_or o 0) (c.copied.ensures ∙ c.get.ensures.value)
    ∙ votes-shown c.self.inside.votes.entries cast (rw (← c.self.view_is) at h) c.args.members.now
