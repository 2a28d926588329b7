use Rattle.std.proofs.Common.{◌≡◌, Bool, false, take}
use Rattle.clap.specs.Words.{App, app_of}
use Rattle.clap.specs.declared.builder.command.Command.{Command}
use Rattle.clap.specs.declared.builder.command.Command.TheOpen.{Command-F}
use Rattle.clap.specs.declared.builder.command.Command.TheViews.{out-Command}
use Rattle.cut_command_line.specs.options.inside.Options.{command_app}
use Rattle.cut_command_line.proofs.options.commands.add.Given as goal

-- whether a command has an argument for all its subcommands
abbrev pub has_globals : Command-F Command → Bool
has_globals fields = fields.has_globals

-- a command as `app` says it, none of whose arguments is for all its subcommands
pub record IsApp (app : App) (command : Command) : Type 0 where
  pub shape : app_of command ≡ app
  pub local : has_globals (out-Command command) ≡ false

abbrev pub invariant-loop-arg : goal.invariant-loop-arg
invariant-loop-arg l = IsApp (command_app l.described.name.now (take l.arg-index l.described.args.now)) l.command
