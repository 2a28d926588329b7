use Rattle.std.proofs.Common.{◌∙◌, List, Option, refl, sym, subst, codes}
use Rattle.clap.specs.Words.{Row, found_of, rows_of}
use Rattle.clap.proofs.WalkLemmas.{first_value-rows}
use Rattle.cut_command_line.specs.declared.job.Job.{Job}
use Rattle.cut_command_line.specs.inside.Line.{GivesJob}
use Rattle.cut_command_line.proofs.Commands.{values}
use Rattle.cut_command_line.proofs.line.ask_job.Goals as goal

pub returns-in_err-socket-clause-gives : goal.returns-in_err-socket-clause-gives
returns-in_err-socket-clause-gives c =
    let rows : List Row = rows_of (found_of c.args.given.now) in
    subst (λ (o : Option Job). GivesJob (codes "ask") rows o) (sym c.from_residual.ensures)
    (λ job gives.
    let found = (values (codes "ask") rows job gives) in
    let none = sym (first_value-rows (found_of c.args.given.now) (codes "socket")) ∙ sym c.in_err-socket.ensures in
    (let bad = sym none ∙ found.1 in cc))

pub returns-clause-gives : goal.returns-clause-gives
returns-clause-gives c =
    let found = found_of c.args.given.now in (
      refl,
      sym (first_value-rows found (codes "socket")) ∙ sym c.in_ok-socket.ensures,
      c.plan_given.ensures,
    )
