use Rattle.std.proofs.lemmas.Grind.{common_steps}
use Rattle.std.proofs.Common.{arith}
use Rattle.cut_book.proofs.Merged.{counted}
use Rattle.cut_book.proofs.history.History.accepted.Goals as goal

pub overflow_add-sum : goal.overflow_add-sum
overflow_add-sum c =
    let all = counted c.same_plans_are_equal.ensures c.self.inside c.self.invariant in
    grind (arith, common_steps, all.few, all.fits, all.value)

pub returns-clause-value : goal.returns-clause-value
returns-clause-value c =
    let all = counted c.same_plans_are_equal.ensures c.self.inside c.self.invariant in
    grind (arith, common_steps, all.value)

pub returns-clause-few : goal.returns-clause-few
returns-clause-few c =
    let all = counted c.same_plans_are_equal.ensures c.self.inside c.self.invariant in
    grind (arith, common_steps, all.few, all.value)
