use Rattle.std.proofs.Common.{max, fold, sym, ap, ◌∙◌}
use Rattle.std.specs.Map.Iter.{deref}
use Rattle.std.proofs.lemmas.Map.Iter.{rest_all}
use Rattle.cut_outcome.proofs.FastRound.{most_counted}
use Rattle.cut_trial.proofs.ballot.Ballot.largest.Goals as goal

pub returns : goal.returns
returns c = λ cast h.
    let ended = rest_all deref _ _ _ c.in-None.is c.next.ensures.steps in
    ap (λ xs. fold max c.loop-votes.most xs) (sym ended) ∙ c.loop-votes.invariant
    ∙ ap (λ xs. fold max 0 xs)
    (c.into_iter-votes-iterator.ensures.into_iter_gives ∙ c.values-votes-items.ensures.rest)
    ∙ most_counted c.self.inside.votes.entries cast c.values-votes-items.ensures.unique
    (rw (← c.self.view_is) at h)
