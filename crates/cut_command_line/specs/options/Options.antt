-- The commands of the program, with their words, options and flags.
use Rattle.std.specs.Prelude.{◌++◌, ℕ, List, [], ◌∷◌, true, codes, pos, Some, map, fold}
use Rattle.cut_command_line.specs.declared.options.limits.TheConstants.{LARGEST_PIECE, MOST_OF_EACH, MOST_WORKERS}
use Rattle.clap.specs.Lexer.{usize_max}
use Rattle.clap.specs.Words.{App, Rule, Text, new_app, new_rule, with_rule, with_subcommand}
use Rattle.clap.specs.declared.builder.action.ArgAction.TheVariants.{Append, SetTrue}
use Rattle.clap.specs.declared.builder.value_parser.ValueParser.TheVariants.{Signed}

-- a word that has to be given
abbrev pub word_rule : Text → Rule
word_rule name = record (new_rule name) { value_names = 1; required = true }

-- an option with a value
abbrev pub option_rule : Text → Rule
option_rule name = record (new_rule name) { long = Some name; value_names = 1 }

-- a flag
abbrev pub flag_rule : Text → Rule
flag_rule name = record (new_rule name) { long = Some name; action = Some SetTrue }

-- an option with a number, from 1 to a greatest one, and with its value if it is not given, if it has one
abbrev pub number_rule : Text → ℕ → List Text → Rule
number_rule name most value = record (option_rule name) { parser = Some (Signed (pos 1) (pos most)); defaults = value }

-- the options `--piece`, 1 to 1,000,000, and `--workers`, 1 to 64, with their values if they are not given
abbrev pub sizes : List Rule
sizes =
    number_rule (codes "piece") LARGEST_PIECE (codes "16" ∷ [])
    ∷ number_rule (codes "workers") MOST_WORKERS (codes "1" ∷ []) ∷ []

-- the options of a server: how many of something it has, each a number from 1 to 64, which has to be given
abbrev pub counts : List Rule
counts =
    map (λ (name : Text). record (number_rule name MOST_OF_EACH []) { required = true })
    (codes "workers" ∷ codes "sessions" ∷ codes "studies" ∷ [])

-- the words `OLD..`: the files of checkpoints, one at least, also where an option stands between them
abbrev pub files_rule : Rule
files_rule = record (word_rule (codes "old")) {
  action = Some Append;
  range = Some (record { start_inclusive = 1; end_inclusive = usize_max });
}

-- the word `PLAN`, which may be left out: the file that the plan is read from
abbrev pub plan_rule : Rule
plan_rule = record (new_rule (codes "plan")) { value_names = 1 }

-- the subcommands: the name of each, and its words in their order, its options and its flags
abbrev pub subcommands : List (Text × List Rule)
subcommands =
    (codes "run", sizes ++ option_rule (codes "checkpoint") ∷ flag_rule (codes "progress") ∷ plan_rule ∷ [])
    ∷ (codes "check", plan_rule ∷ []) ∷ (codes "explain", plan_rule ∷ []) ∷ (codes "canonical", plan_rule ∷ [])
    ∷ (codes "status", word_rule (codes "file") ∷ [])
    ∷ (codes "serve", word_rule (codes "socket") ∷ counts ++ option_rule (codes "dir") ∷ [])
    ∷ (codes "ask", word_rule (codes "socket") ∷ option_rule (codes "plan") ∷ [])
    ∷ (codes "migrate", word_rule (codes "old") ∷ word_rule (codes "new") ∷ option_rule (codes "plan") ∷ [])
    ∷ (
      codes "share",
      word_rule (codes "share") ∷ word_rule (codes "file")
          ∷ sizes ++ flag_rule (codes "progress") ∷ option_rule (codes "plan") ∷ [],
    )
    ∷ (codes "join", word_rule (codes "new") ∷ files_rule ∷ flag_rule (codes "which") ∷ option_rule (codes "plan") ∷ []) ∷ []

-- the program as clap sees it: it has a version, needs one of its subcommands, and without a word it shows its help
unfoldable pub program_app : App
program_app = let bare : App = new_app (codes "cutlab") in
    let asking : App = record bare {
      top = record bare.top { has_version = true; subcommand_required = true; arg_required_else_help = true };
    } in
    fold (λ app sub. with_subcommand app (fold with_rule (new_app sub.0) sub.1).top) asking subcommands
