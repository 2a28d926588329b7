use Rattle.std.proofs.Common.{◌∙◌, ◌||◌, Bool, ap, ap₂, sym}
use Rattle.std.proofs.lemmas.List.{take_all}
use Rattle.std.proofs.lemmas.List.Sums.{fold_more}
use Rattle.std.proofs.lemmas.Result.{IfOk-weaker}
use Rattle.clap.specs.Words.{App, app_of, with_rule, with_subcommand}
use Rattle.clap.specs.Simple.{app_of_fields}
use Rattle.cut_command_line.specs.declared.options.arguments.Argument.{Argument}
use Rattle.cut_command_line.specs.options.inside.Options.{argument_rule, with_command}
use Rattle.cut_command_line.proofs.options.commands.add.Invariants.{has_globals}
use Rattle.cut_command_line.proofs.options.commands.add.Goals as goal

pub loop-arg-init : goal.loop-arg-init
loop-arg-init c = record {
  shape = ap app_of_fields c.after_help-command.ensures ∙ ap app_of_fields c.about.ensures
      ∙ ap app_of_fields c.override_usage.ensures ∙ c.new.ensures.app;
  local = ap has_globals c.after_help-command.ensures ∙ ap has_globals c.about.ensures
      ∙ ap has_globals c.override_usage.ensures ∙ c.new.ensures.local;
}

pub loop-arg-preserved : goal.loop-arg-preserved
loop-arg-preserved c = record {
  shape = c.in_ok-command.ensures.shape c.in_clap.ensures.local
      ∙ (ap₂ with_rule c.loop-arg.invariant.shape c.in_clap.ensures.rule
      ∙ sym (fold_more (λ (app : App) (arg : Argument). with_rule app (argument_rule arg)) _ _ _ _ c.loop-arg-test.true));
  local = c.in_ok-command.ensures.globals
      ∙ ap₂ (λ (x y : Bool). x || y) c.loop-arg.invariant.local c.in_clap.ensures.local;
}

pub returns : goal.returns
unfolding with_command
returns c = rw (sym (take_all _ _ c.loop-arg-test.false)) (IfOk-weaker c.subcommand.result _ _
    (λ r h. h.shape c.loop-arg.invariant.local
    ∙ ap (λ (a : App). with_subcommand (app_of c.args.program) a.top) c.loop-arg.invariant.shape)
    c.subcommand.ensures)
