-- Equal texts are read as equal plans.
use Rattle.std.proofs.Common.{◌≡◌, Ok, refl, sym, ap, ◌∙◌}
use Rattle.std.proofs.lemmas.Bool.Decides.{Decides-eqb}
use Rattle.std.proofs.lemmas.Slice.Eq.{slice_eq-Decides}
use Rattle.cut_plan.specs.Accepted.{plan_of}
use Rattle.cut_plan.specs.Canonical.{canonical_text}
use Rattle.cut_ledger.specs.Refusals.{is_same_plan}
use Rattle.cut_ledger.proofs.laws.same_plans_are_equal.Goals as goal

pub returns : goal.returns
unfolding is_same_plan
returns c = λ a b plan-a plan-b.
    let reported = slice_eq-Decides Decides-eqb (canonical_text a) (canonical_text b) (is_same_plan a b) refl in (
      λ e. (let same : Ok a ≡ Ok b = sym (c.canonical_text_reads_back.ensures a plan-a) ∙ ap plan_of (reported.0 e)
          ∙ c.canonical_text_reads_back.ensures b plan-b in cc),
      λ e. reported.1 (ap canonical_text e),
    )
