use Rattle.std.proofs.Common.{arith}
use Rattle.std.proofs.lemmas.List.FromFn.{length-map-range_with_len}
use Rattle.cut_alerts.proofs.Legal.{legal}
use Rattle.cut_alerts.proofs.roles.Roles.given_mixed.Goals as goal

pub returns-then-not-are_legal-clause-bad_role : goal.returns-then-not-are_legal-clause-bad_role
returns-then-not-are_legal-clause-bad_role c =
    grind (arith, legal)

pub returns-in_err-roles-clause-bad_role : goal.returns-in_err-roles-clause-bad_role
returns-in_err-roles-clause-bad_role c =
    grind (arith, legal)

pub invariant_of-result : goal.invariant_of-result
invariant_of-result c =
    grind (arith, length-map-range_with_len)

pub returns-clause-legal : goal.returns-clause-legal
returns-clause-legal c =
    grind (arith, legal)

pub returns-clause-bad_role : goal.returns-clause-bad_role
returns-clause-bad_role c =
    grind (arith, legal)
