use Rattle.std.proofs.Common.{◌∙◌, List, Option, refl, sym, subst, codes}
use Rattle.clap.specs.Words.{Row, found_of, rows_of}
use Rattle.clap.proofs.WalkLemmas.{first_value-rows}
use Rattle.cut_command_line.specs.declared.job.Job.{Job}
use Rattle.cut_command_line.specs.inside.Line.{GivesJob}
use Rattle.cut_command_line.proofs.Commands.{values}
use Rattle.cut_command_line.proofs.line.migrate_job.Goals as goal

pub returns-in_err-old-clause-gives : goal.returns-in_err-old-clause-gives
returns-in_err-old-clause-gives c =
    let rows : List Row = rows_of (found_of c.args.given.now) in
    subst (λ (o : Option Job). GivesJob (codes "migrate") rows o) (sym c.from_residual.ensures)
    (λ job gives.
    let found = (values (codes "migrate") rows job gives).0 in
    let none = sym (first_value-rows (found_of c.args.given.now) (codes "old")) ∙ sym c.in_err-old.ensures in
    (let bad = sym none ∙ found.1 in cc))

pub returns-in_err-new-clause-gives : goal.returns-in_err-new-clause-gives
returns-in_err-new-clause-gives c =
    let rows : List Row = rows_of (found_of c.args.given.now) in
    subst (λ (o : Option Job). GivesJob (codes "migrate") rows o) (sym c.from_residual-in_err-new.ensures)
    (λ job gives.
    let found = (values (codes "migrate") rows job gives).1 in
    let none = sym (first_value-rows (found_of c.args.given.now) (codes "new")) ∙ sym c.in_err-new.ensures in
    (let bad = sym none ∙ found.1 in cc))

pub returns-clause-gives : goal.returns-clause-gives
returns-clause-gives c =
    let found = found_of c.args.given.now in (
      refl,
      sym (first_value-rows found (codes "old")) ∙ sym c.in_ok-old.ensures,
      sym (first_value-rows found (codes "new")) ∙ sym c.in_ok-new.ensures,
      c.plan_given.ensures,
    )
