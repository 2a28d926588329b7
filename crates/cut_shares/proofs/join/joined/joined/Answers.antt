use Rattle.std.proofs.Common.{◌≡◌, List}
use Rattle.std.proofs.lemmas.Result.{IfOk-weaker}
use Rattle.cut_shares.proofs.Goods.{moved_ascending}
use Rattle.cut_shares.proofs.LawsOfJoins.{joined_good, joined_moved}
use Rattle.cut_shares.proofs.Words.{AreGood, Slip, Values, joined}
use Rattle.cut_shares.proofs.join.joined.joined.Goals as goal

pub merged-requires : goal.merged-requires
merged-requires c =
    rw (c.plan-plan.ensures, c.deref.ensures.value)
    (moved_ascending c.args.accepted.now.plan c.args.accepted.now.slips c.in_ok-ascending.ascending.items
    (rw c.plan-plan.ensures at c.plans_are_accepted.ensures.accepted) c.slips.ensures.good
    (rw c.slips.ensures.slips at c.in_ok-ascending.ensures.permutation) c.in_ok-ascending.ensures.sorted)

pub returns-clause-joined : goal.returns-clause-joined
returns-clause-joined c =
    let moved = joined_moved c.args.accepted.now.plan c.args.accepted.now.slips c.in_ok-ascending.ascending.items
    (rw c.slips.ensures.slips at c.in_ok-ascending.ensures.permutation) in
    rw (c.plan-plan.ensures, c.deref.ensures.value, moved) at c.merged.ensures

pub returns-clause-good : goal.returns-clause-good
returns-clause-good c =
    let v : Values = c.args.accepted.now.plan in
    let ss : List Slip = c.args.accepted.now.slips in
    let plan = rw c.plan-plan.ensures at c.plans_are_accepted.ensures.accepted in
    IfOk-weaker c.merged.result (λ found. found.items ≡ joined v ss) (λ found. AreGood v found.items)
    (λ found is. rw is (joined_good v ss plan c.slips.ensures.good)) (returns-clause-joined c)
