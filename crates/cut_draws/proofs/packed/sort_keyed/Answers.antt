use Rattle.std.proofs.Common.{rules}
use Rattle.std.proofs.lemmas.List.Sorted.{answers_always}
use Rattle.cut_draws.proofs.packed.sort_keyed.Goals as goal

pub returns-clause-sorted : goal.returns-clause-sorted
returns-clause-sorted c = c.sort_unstable_by_key.ensures.sorted (λ x. (x.key, (x.number, x.copy)))
    (answers_always _ _ _ (λ f a r g called. search rules))
