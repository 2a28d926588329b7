use Rattle.std.proofs.Common.{List, ℕ, subst}
use Rattle.cut_status.specs.inside.Study.{IsTallyIn}
use Rattle.cut_status.proofs.Readings.{tally_fault, tally_study}
use Rattle.cut_status.proofs.reading.status_of.Goals as goal

pub returns-clause-ok : goal.returns-clause-ok
returns-clause-ok c =
    tally_study c.of.result c.args.bytes.items c.in_ok-plan.plan c.in_ok-tally.tally c.in_ok-plan.ensures.plan
    (subst (λ (bytes : List ℕ). IsTallyIn c.in_ok-plan.plan bytes c.in_ok-tally.tally) c.deref-3.ensures.value
    c.in_ok-tally.ensures.read) c.of.ensures.ok

pub returns-clause-err : goal.returns-clause-err
returns-clause-err c =
    tally_fault c.of.result c.args.bytes.items c.in_ok-plan.plan c.in_ok-tally.tally c.in_ok-plan.ensures.plan
    (subst (λ (bytes : List ℕ). IsTallyIn c.in_ok-plan.plan bytes c.in_ok-tally.tally) c.deref-3.ensures.value
    c.in_ok-tally.ensures.read) c.of.ensures.err
