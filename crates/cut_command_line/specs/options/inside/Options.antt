-- The arguments and the commands, as the code describes them.
use Rattle.std.specs.Prelude.{List, [], ◌∷◌, codes, fold, true}
use Rattle.clap.specs.Words.{App, Rule, Text, new_app, with_rule, with_subcommand}
use Rattle.cut_command_line.specs.declared.options.commands.Described.{Described}
use Rattle.cut_command_line.specs.declared.options.limits.TheConstants.{LARGEST_PIECE, MOST_OF_EACH, MOST_WORKERS}
use Rattle.cut_command_line.specs.declared.options.arguments.Argument.{Argument}
use Rattle.cut_command_line.specs.declared.options.arguments.Argument.TheVariants.{Count, Files, Flag, Piece, Plan, Value, Word, Workers}
use Rattle.cut_command_line.specs.options.Options.{files_rule, flag_rule, number_rule, option_rule, plan_rule, word_rule}

-- the options `--piece` and `--workers`
abbrev pub piece_rule : Rule
piece_rule = number_rule (codes "piece") LARGEST_PIECE (codes "16" ∷ [])

abbrev pub workers_rule : Rule
workers_rule = number_rule (codes "workers") MOST_WORKERS (codes "1" ∷ [])

-- an option of a server: how many of something it has
abbrev pub count_rule : Text → Rule
count_rule name = record (number_rule name MOST_OF_EACH []) { required = true }

-- what clap reads of an argument
abbrev pub argument_rule : Argument → Rule
argument_rule (Word name _ _) = word_rule name.now
argument_rule Files = files_rule
argument_rule Plan = plan_rule
argument_rule (Value name _ _) = option_rule name.now
argument_rule (Count name _) = count_rule name.now
argument_rule Piece = piece_rule
argument_rule Workers = workers_rule
argument_rule (Flag name _) = flag_rule name.now

-- a command with this name and these arguments
abbrev pub command_app : Text → List Argument → App
command_app name args = fold (λ app arg. with_rule app (argument_rule arg)) (new_app name) args

-- the program without its commands
abbrev pub bare_app : App
bare_app = let bare : App = new_app (codes "cutlab") in record bare {
  top = record bare.top { has_version = true; subcommand_required = true; arg_required_else_help = true };
}

-- a program with one more command
unfoldable pub with_command : App → Described → App
with_command program described =
    with_subcommand program (command_app described.name.now described.args.now).top
