use Rattle.std.proofs.Common.{[], ◌≡◌, List, Option, Some, None, map, true, inl, inr, refl, subst, sym, ap, ◌∙◌}
use Rattle.std.specs.Prelude.{IfSome, IfNone}
use Rattle.clap.specs.Words.{App, HasKind, IsAmong, Row, Text, app_of, fault_of, is_simple, is_simple_and_free, kind_of}
use Rattle.clap.specs.Words.{subcommand_of, subcommand_rows_of}
use Rattle.clap.proofs.OnLiterals.{clap_on_literals}
use Rattle.clap.specs.declared.error.kind.ErrorKind.{ErrorKind}
use Rattle.clap.specs.declared.error.kind.ErrorKind.TheVariants.{ValueValidation, OutOfMemory}
use Rattle.cut_command_line.specs.declared.job.Job.{Job}
use Rattle.cut_command_line.specs.options.Options.{program_app}
use Rattle.cut_command_line.specs.Line.{status_of_kind, IsAsked, NamesJob}
use Rattle.cut_command_line.specs.inside.Line.{IsJobOf}
use Rattle.cut_command_line.proofs.line.job_by.Goals as goal

is_free : is_simple_and_free program_app ≡ true
unfolding clap_on_literals program_app
is_free = refl

is_plain : is_simple program_app ≡ true
unfolding clap_on_literals program_app
is_plain = refl

pub returns-in-Err-clause-err : goal.returns-in-Err-clause-err
returns-in-Err-clause-err g c =
    let words : List Text = map g.S.AsStr.text c.args.words.now in
    let app : app_of c.args.command.now ≡ program_app = c.requires in
    let kinds : HasKind (fault_of (app_of c.args.command.now) words) c.in-Err.error = c.in-Err.ensures.kinds
    (ap is_simple_and_free app ∙ is_free) in
    let kind : ErrorKind = kind_of c.in-Err.error in
    let asked : IsAsked words kind = elim kinds [
      | inl none ↦ inr (inl none)
      | inr among ↦ inl (subst (λ (a : App). IsAmong kind (fault_of a words)) app among)
    ] in (
      kind,
      asked,
      c.line_fault.ensures.status ∙ ap status_of_kind c.kind.ensures,
      λ is. c.line_fault.ensures.text (c.kind.ensures ∙ is),
    )

faultless : (c : App) (words : List Text) → c ≡ program_app → fault_of c words ≡ [] → fault_of program_app words ≡ []
faultless a words is none = ap (λ (x : App). fault_of x words) (sym is) ∙ none

-- the subcommand that a parse entered is the one that the words name
named : (a : App) (words : List Text) (sub : Option (Text × List Row)) → a ≡ program_app
    → (is_simple a ≡ true → sub ≡ subcommand_of a words) → sub ≡ subcommand_of program_app words
named a words sub is matches = matches (ap is_simple is ∙ is_plain) ∙ ap (λ (x : App). subcommand_of x words) is

-- the job of the subcommand that the words name is the one that they name
is_named : (words : List Text) (job : Job) (sub : Option (Text × List Row)) → sub ≡ subcommand_of program_app words
    → IsJobOf sub job → NamesJob words job
is_named words job None is of = absurd of
is_named words job (Some sub) is of = (sub, sym is, of)

is_of_named : (words : List Text) (job : Job) (sub : Option (Text × List Row)) → sub ≡ subcommand_of program_app words
    → NamesJob words job → IsJobOf sub job
is_of_named words job sub is names =
    subst (λ (o : Option (Text × List Row)). IsJobOf o job) (sym (is ∙ names.1)) names.2

pub returns-in-Ok-Some-clause-faultless : goal.returns-in-Ok-Some-clause-faultless
returns-in-Ok-Some-clause-faultless g c =
    let app : app_of c.args.command.now ≡ program_app = c.requires in
    faultless (app_of c.args.command.now) (map g.S.AsStr.text c.args.words.now) app
    (c.in-Ok.ensures.kinds (ap is_simple_and_free app ∙ is_free))

pub returns-in-Ok-Some-clause-ok : goal.returns-in-Ok-Some-clause-ok
returns-in-Ok-Some-clause-ok g c =
    let words : List Text = map g.S.AsStr.text c.args.words.now in
    let app : app_of c.args.command.now ≡ program_app = c.requires in
    let same = named (app_of c.args.command.now) words (subcommand_rows_of c.in-Ok.matches) app
    (λ simple. (c.in-Ok.ensures.ok.2 simple).1) in
    let some : IfSome (Some c.in-Ok-Some.job)
    (λ job. IsJobOf (subcommand_rows_of c.in-Ok.matches) job) =
    subst (λ (o : Option Job). IfSome o
    (λ job. IsJobOf (subcommand_rows_of c.in-Ok.matches) job)) c.in-Ok-Some.field-0-is
    c.in-Ok-Some.ensures.some in
    is_named words c.in-Ok-Some.job (subcommand_rows_of c.in-Ok.matches) same some

pub returns-in-Ok-None-clause-err : goal.returns-in-Ok-None-clause-err
returns-in-Ok-None-clause-err g c =
    let words : List Text = map g.S.AsStr.text c.args.words.now in
    let app : app_of c.args.command.now ≡ program_app = c.requires in
    let same = named (app_of c.args.command.now) words (subcommand_rows_of c.in-Ok.matches) app
    (λ simple. (c.in-Ok.ensures.ok.2 simple).1) in
    let lacks : IfNone {T = Job} None
    ((job : Job) → IsJobOf (subcommand_rows_of c.in-Ok.matches) job → ⊥) =
    subst (λ (o : Option Job). IfNone o
    ((job : Job) → IsJobOf (subcommand_rows_of c.in-Ok.matches) job → ⊥))
    c.in-Ok-None.field-0-is c.in-Ok-None.ensures.none in
    let none : (job : Job) → NamesJob words job → ⊥ = λ job names. lacks job
    (is_of_named words job (subcommand_rows_of c.in-Ok.matches) same names) in (
      ValueValidation,
      inr (inr (
        none,
        faultless (app_of c.args.command.now) words app
            (c.in-Ok.ensures.kinds (ap is_simple_and_free app ∙ is_free)),
        refl,
      )),
      c.wrong_value.ensures.status,
      λ is. c.wrong_value.ensures.text is,
    )

pub returns-clause-err : goal.returns-clause-err
returns-clause-err g c = (
  OutOfMemory,
  inr (inl refl),
  c.line_fault-in-Err-job_of.ensures.status,
  λ is. c.line_fault-in-Err-job_of.ensures.text refl,
)
