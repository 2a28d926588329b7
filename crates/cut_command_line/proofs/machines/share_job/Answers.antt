use Rattle.std.proofs.Common.{◌∙◌, List, Option, refl, sym, subst, codes}
use Rattle.clap.specs.Words.{Row, found_of, rows_of}
use Rattle.clap.proofs.WalkLemmas.{first_value-rows}
use Rattle.cut_command_line.specs.declared.job.Job.{Job}
use Rattle.cut_command_line.specs.inside.Line.{GivesJob}
use Rattle.cut_command_line.proofs.Commands.{values}
use Rattle.cut_command_line.proofs.machines.share_job.Goals as goal

pub returns-in_err-share-clause-gives : goal.returns-in_err-share-clause-gives
returns-in_err-share-clause-gives c =
    let rows : List Row = rows_of (found_of c.args.given.now) in
    subst (λ (o : Option Job). GivesJob (codes "share") rows o) (sym c.from_residual.ensures)
    (λ job gives.
    let found = (values (codes "share") rows job gives).0 in
    c.in_err-share.ensures.none found.0 found.1.0 found.1.1)

pub returns-in_err-file-clause-gives : goal.returns-in_err-file-clause-gives
returns-in_err-file-clause-gives c =
    let rows : List Row = rows_of (found_of c.args.given.now) in
    subst (λ (o : Option Job). GivesJob (codes "share") rows o) (sym c.from_residual-in_err-file.ensures)
    (λ job gives.
    let found = (values (codes "share") rows job gives).1 in
    let none = sym (first_value-rows (found_of c.args.given.now) (codes "file")) ∙ sym c.in_err-file.ensures in
    (let bad = sym none ∙ found.1 in cc))

pub returns-in_err-piece-clause-gives : goal.returns-in_err-piece-clause-gives
returns-in_err-piece-clause-gives c =
    let rows : List Row = rows_of (found_of c.args.given.now) in
    subst (λ (o : Option Job). GivesJob (codes "share") rows o) (sym c.from_residual-in_err-piece.ensures)
    (λ job gives.
    let found = (values (codes "share") rows job gives).2 in
    c.in_err-piece.ensures.none found.0 found.1)

pub returns-in_err-workers-clause-gives : goal.returns-in_err-workers-clause-gives
returns-in_err-workers-clause-gives c =
    let rows : List Row = rows_of (found_of c.args.given.now) in
    subst (λ (o : Option Job). GivesJob (codes "share") rows o) (sym c.from_residual-in_err-workers.ensures)
    (λ job gives.
    let found = (values (codes "share") rows job gives).3 in
    c.in_err-workers.ensures.none found.0 found.1)

pub returns-clause-gives : goal.returns-clause-gives
returns-clause-gives c =
    let found = found_of c.args.given.now in (
      refl,
      c.in_ok-share.ensures.some,
      sym (first_value-rows found (codes "file")) ∙ sym c.in_ok-file.ensures,
      c.in_ok-piece.ensures.some,
      c.in_ok-workers.ensures.some,
      c.flag_given.ensures,
      c.plan_given.ensures,
    )
