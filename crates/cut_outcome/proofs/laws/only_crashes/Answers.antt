use Rattle.cut_outcome.proofs.Crashes.{none_proposes_others, none_is_silent}
use Rattle.cut_outcome.proofs.laws.only_crashes.Goals as goal

pub returns-clause-others : goal.returns-clause-others
returns-clause-others c =
    none_proposes_others c.cells_are_the_combinations.ensures c.proposes_at_least_place.ensures

pub returns-clause-silent : goal.returns-clause-silent
returns-clause-silent c = λ v t plan inside.
    none_is_silent c.cells_are_the_combinations.ensures c.proposes_at_least_place.ensures v t plan inside
    c.targets_alone.ensures.stable c.targets_alone.ensures.unstable
