use Rattle.std.proofs.Common.{ap}
use Rattle.cut_plan.specs.Canonical.{canonical_text}
use Rattle.cut_plan.proofs.RoundTrip.{texts_differ}
use Rattle.cut_plan.proofs.plan.Plan.same.Goals as goal

pub returns-clause-texts : goal.returns-clause-texts
returns-clause-texts c =
    let v = c.args.self.now in
    let w = c.args.other.now in
    let known = c.has_values_of.ensures in
    (λ h. ap canonical_text (known.values.0 h), λ e. known.values.1 (texts_differ v w known.plan known.other_plan e))
