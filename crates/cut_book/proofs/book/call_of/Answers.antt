use Rattle.std.proofs.Common.{Bool, sym, ap}
use Rattle.cut_ledger.specs.Machine.{slip_of}
use Rattle.cut_book.specs.declared.call.Call.TheVariants.{HandIn}
use Rattle.cut_book.proofs.book.call_of.Goals as goal
use Rattle.cut_ledger.proofs.RefusalLemmas.{same_plan}

pub returns-clause-call : goal.returns-clause-call
returns-clause-call c =
    let same = same_plan c.plan.result.now c.plan-2.result.now c.same.result c.same.ensures.texts in
    rw (c.slip_of.ensures.slip, ← c.plan.ensures.value) (ap (λ (b : Bool). HandIn (slip_of c.args.offered.now) b
    c.args.answer) (rw c.plan-2.ensures at (sym same)))
