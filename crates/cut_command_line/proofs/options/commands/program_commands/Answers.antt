use Rattle.cut_command_line.specs.options.Options.{program_app}
use Rattle.cut_command_line.specs.options.inside.Options.{with_command}
use Rattle.cut_command_line.proofs.options.commands.program_commands.Goals as goal

pub returns : goal.returns
unfolding program_app with_command
returns c = c.add_all.ensures
