-- The canonical text of a plan is accepted as that plan.
use Rattle.std.proofs.Common.{◌≡◌, Ok, arith}
use Rattle.cut_plan.specs.Values.{Values}
use Rattle.cut_plan.specs.Plan.{IsPlan}
use Rattle.cut_plan.specs.Accepted.{plan_of}
use Rattle.cut_plan.specs.Canonical.{canonical_text}
use Rattle.cut_plan.proofs.Members.{values_back}
use Rattle.cut_plan.proofs.CanonicalAccepted.{plan_in_back}
use Rattle.cut_plan.proofs.CanonicalReads.{canonical_reads}
use Rattle.cut_plan.proofs.TextsOfPlans.{plan_of-text}
use Rattle.cut_plan.proofs.CanonicalLength.{canonical_plain}

-- plans with equal texts are equal
pub texts_differ : (v w : Values) → IsPlan v → IsPlan w → canonical_text v ≡ canonical_text w → v ≡ w
texts_differ v w pv pw same =
    grind (arith, canonical_reads v pv, canonical_reads w pw, values_back v pv, values_back w pw)

pub reads_back : (v : Values) → IsPlan v → plan_of (canonical_text v) ≡ Ok v
reads_back v plan =
    grind (arith, canonical_plain, plan_of-text, canonical_reads, plan_in_back)
