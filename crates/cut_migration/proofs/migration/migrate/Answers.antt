use Rattle.std.proofs.Common.{rules, ◌≡◌, ◌∙◌, List, Err, inl, refl, ap, subst}
use Rattle.std.proofs.lemmas.Result.{err_from_is_err_and}
use Rattle.cut_plan.specs.Values.{Values}
use Rattle.cut_ledger.specs.Slips.{AreGood}
use Rattle.cut_journal.specs.declared.store_fault.StoreFault.{StoreFault}
use Rattle.cut_journal.specs.declared.store_fault.StoreFault.TheVariants.{Memory, NotVersion1, OtherPlan}
use Rattle.cut_journal.specs.FaultCode.{fault_of_slips}
use Rattle.cut_migration.proofs.Migrations.{refused, unmoved}
use Rattle.cut_migration.proofs.migration.migrate.Goals as goal

pub returns-then-ne-clause-ends : goal.returns-then-ne-clause-ends
returns-then-ne-clause-ends g c =
    unmoved g.D.Disk.log (Err NotVersion1) NotVersion1 c.args.plan.now c.args.slips.now c.args.journal.now
    c.journals_stay_readable.ensures.sound refl (search rules, (refl, refl))

pub returns-in_err-try_clone-clause-ends : goal.returns-in_err-try_clone-clause-ends
returns-in_err-try_clone-clause-ends g c =
    let p = err_from_is_err_and c.from_residual.result c.from_residual.ensures.1 in
    unmoved g.D.Disk.log c.from_residual.result Memory c.args.plan.now c.args.slips.now c.args.journal.now
    c.journals_stay_readable.ensures.sound (p.1 ∙ ap (λ (e : StoreFault). Err e) p.2) (search rules, inl (refl, refl))

pub returns-in_err-from_slips-clause-ends : goal.returns-in_err-from_slips-clause-ends
returns-in_err-from_slips-clause-ends g c =
    let p = err_from_is_err_and c.from_residual-in_err-from_slips.result c.from_residual-in_err-from_slips.ensures.1 in
    let fault = c.in_err-from_slips.field-0.0 in
    unmoved g.D.Disk.log c.from_residual-in_err-from_slips.result (fault_of_slips fault) c.args.plan.now c.args.slips.now
    c.args.journal.now c.journals_stay_readable.ensures.sound (p.1 ∙ ap (λ (e : StoreFault). Err e) p.2)
    (refused fault c.args.plan.now c.in_ok-try_clone.field-0 c.args.slips.now c.args.journal.now (search rules)
    c.in_ok-try_clone.ensures.value c.in_err-from_slips.ensures.err)

pub returns-in_err-upgrade-clause-ends : goal.returns-in_err-upgrade-clause-ends
returns-in_err-upgrade-clause-ends g c =
    let p = err_from_is_err_and c.from_residual-in_err-upgrade.result c.from_residual-in_err-upgrade.ensures.1 in
    unmoved g.D.Disk.log c.from_residual-in_err-upgrade.result Memory c.args.plan.now c.args.slips.now c.args.journal.now
    c.journals_stay_readable.ensures.sound (p.1 ∙ ap (λ (e : StoreFault). Err e) p.2) (search rules, inl (refl, refl))

good : (v w : Values) (ss : List _) → w ≡ v → AreGood w ss → AreGood v ss
good v w ss same is = subst (λ (u : Values). AreGood u ss) same is

pub returns-then-not-same-clause-ends : goal.returns-then-not-same-clause-ends
returns-then-not-same-clause-ends g c =
    unmoved g.D.Disk.log (Err OtherPlan) OtherPlan c.args.plan.now c.args.slips.now c.args.journal.now
    c.journals_stay_readable.ensures.sound refl (
      search rules,
      good c.args.plan.now c.in_ok-try_clone.field-0 c.args.slips.now c.in_ok-try_clone.ensures.value
          c.in_ok-from_slips.ensures.good,
      search rules,
      (refl, refl),
    )

pub returns-in_err-rings-clause-ends : goal.returns-in_err-rings-clause-ends
returns-in_err-rings-clause-ends g c =
    let p = err_from_is_err_and c.from_residual-in_err-rings.result c.from_residual-in_err-rings.ensures.1 in
    unmoved g.D.Disk.log c.from_residual-in_err-rings.result Memory c.args.plan.now c.args.slips.now c.args.journal.now
    c.journals_stay_readable.ensures.sound (p.1 ∙ ap (λ (e : StoreFault). Err e) p.2) (search rules, inl (refl, refl))

pub move_slips-requires-clause-good : goal.move_slips-requires-clause-good
move_slips-requires-clause-good g c =
    good c.args.plan.now c.in_ok-try_clone.field-0 c.args.slips.now c.in_ok-try_clone.ensures.value
    c.in_ok-from_slips.ensures.good
