-- Plans are the same where their texts are.
use Rattle.std.proofs.Common.{◌≡◌, Bool}
use Rattle.cut_ledger.proofs.Words.{IsTrue, Values, refl, ◌↔◌}
use Rattle.std.proofs.lemmas.Bool.Decides.{Decides-eqb, same_from_decides}
use Rattle.std.proofs.lemmas.Slice.Eq.{slice_eq-Decides}
use Rattle.cut_plan.specs.Canonical.{canonical_text}
use Rattle.cut_ledger.specs.Refusals.{is_same_plan}

pub same_plan : (a b : Values) (r : Bool) → (IsTrue r ↔ (canonical_text a ≡ canonical_text b)) → is_same_plan a b ≡ r
unfolding is_same_plan
same_plan a b r reported =
    same_from_decides _ r (slice_eq-Decides Decides-eqb (canonical_text a) (canonical_text b) (is_same_plan a b) refl)
    reported
