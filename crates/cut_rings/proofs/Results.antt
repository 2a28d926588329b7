-- What two clauses say of one `Ok`.
use Rattle.std.proofs.Common.{Ok, Err}
use Rattle.std.specs.Result.{IfOk}
use Rattle.std.specs.Prelude.{Result}

pub IfOk-both : {T E : Type 0} (r : Result T E) (P Q R : T → Type 0) → ((x : T) → P x → Q x → R x) → IfOk r P → IfOk r Q
    → IfOk r R
IfOk-both (Ok x) P Q R f p q = f x p q
IfOk-both (Err e) P Q R f p q = tt
