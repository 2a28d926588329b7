use Rattle.std.proofs.Common.{◌≡◌, fold, take}
use Rattle.clap.specs.Words.{app_of}
use Rattle.cut_command_line.specs.options.inside.Options.{bare_app, with_command}
use Rattle.cut_command_line.proofs.options.commands.add_all.Given as goal

abbrev pub invariant-loop-described : goal.invariant-loop-described
invariant-loop-described l = app_of l.program ≡ fold with_command bare_app (take l.described-index l.commands)
