-- What is accepted is a plan.
use Rattle.std.proofs.Common.{◌≡◌, ℕ, List, length, Bool, true, false, nat_lt, cond, Option, Some, None, Result, Ok}
use Rattle.std.proofs.Common.{Err, refl, subst}
use Rattle.std.specs.Bool.{⊤}
use Rattle.std.specs.Result.{result_and}
use Rattle.serde_json.specs.Data.{Data}
use Rattle.cut_plan.specs.declared.refusal.Refusal.{Refusal}
use Rattle.cut_plan.specs.Values.{Values}
use Rattle.cut_plan.specs.Plan.{IsPlan}
use Rattle.cut_plan.specs.Accepted.{field_check, limit_check, plan_in, plan_of}
use Rattle.cut_plan.specs.inside.Accepted.{values_in, found_in}
use Rattle.cut_plan.proofs.PlanFacts.{plan_facts}

after_ok : {B : Type 0} (r : Result ⊤ Refusal) (later : Result B Refusal) (x : B) → result_and r later ≡ Ok x
    → (r ≡ Ok tt) × (later ≡ Ok x)
after_ok (Ok y) later x h = (refl, h)
after_ok (Err e) later x h = cc h

plan_in_is_plan : (d : Data) (v : Values) → plan_in d ≡ Ok v → IsPlan v
unfolding plan_in
plan_in_is_plan d v h =
    let first = after_ok (field_check d) _ v h in
    let second = after_ok (limit_check (values_in d)) _ v first.1 in
    let same : values_in d ≡ v = cc (second.1) in
    subst IsPlan same (plan_facts d first.0 second.0)

found_is_plan : (o : Option Data) (v : Values) → found_in o ≡ Ok v → IsPlan v
found_is_plan None v h = cc h
found_is_plan (Some d) v h = plan_in_is_plan d v h

past_error : (b : Bool) (fault : Refusal) (later : Result Values Refusal) (v : Values) → cond b (Err fault) later ≡ Ok v
    → later ≡ Ok v
past_error true fault later v h = cc h
past_error false fault later v h = h

pub accepted_is_plan : (text : List ℕ) (v : Values) → plan_of text ≡ Ok v → IsPlan v
unfolding plan_of
accepted_is_plan text v h = found_is_plan _ v (past_error (nat_lt 65536 (length text)) _ _ v h)
