use Rattle.std.proofs.Common.{List, subst}
use Rattle.cut_ledger.specs.declared.slip.Slip.{Slip}
use Rattle.cut_ledger.specs.Slips.{AreGood}
use Rattle.cut_plan.specs.Values.{Values}
use Rattle.cut_pool.specs.Faults.{of_opening}
use Rattle.cut_pool.specs.Running.{slips_of}
use Rattle.cut_pool.proofs.Leaving.{opened_as}
use Rattle.cut_pool.proofs.study_run.open_kept.Goals as goal

pub returns-in-Ok-clause-good : goal.returns-in-Ok-clause-good
returns-in-Ok-clause-good g c =
    opened_as c.over.result c.opened.result (λ e. (of_opening e.0, e.1)) c.opened.ensures.ok c.opened.ensures.err
    (λ good. subst (λ (v : Values). AreGood v (slips_of c.args.kept)) c.in-Ok.ensures.value
    (rw c.in-Some.is (subst (λ (l : List Slip). AreGood c.in-Ok.plan l) c.as_slice.ensures.value good)))
    c.over.ensures.good
