use Rattle.std.proofs.Common.{◌≡◌, ◌∙◌, ap, true, codes}
use Rattle.clap.specs.Words.{App, app_of, new_app}
use Rattle.clap.specs.Simple.{app_of_fields}
use Rattle.cut_command_line.proofs.options.commands.bare_program.Goals as goal

-- a command with a version, one that needs a subcommand, and one that shows its help without a word
abbrev versioned : App → App
versioned a = record a { top = record a.top { has_version = true } }

abbrev requires_one : App → App
requires_one a = record a { top = record a.top { subcommand_required = true } }

abbrev helps : App → App
helps a = record a { top = record a.top { arg_required_else_help = true } }

pub returns : goal.returns
returns c =
    let named : app_of c.in_ok-program.program ≡ new_app (codes "cutlab") = ap app_of_fields c.in_ok-program.ensures.0
    ∙ c.new.ensures.app in
    let about : app_of c.about.result ≡ new_app (codes "cutlab") = ap app_of_fields c.about.ensures ∙ named in
    let version : app_of c.version.result ≡ versioned (new_app (codes "cutlab")) = ap app_of_fields c.version.ensures
    ∙ ap versioned about in
    let helped : app_of c.after_help.result ≡ versioned (new_app (codes "cutlab")) = ap app_of_fields
    c.after_help.ensures ∙ version in
    let one : app_of c.subcommand_required.result ≡ requires_one (versioned (new_app (codes "cutlab"))) =
    ap app_of_fields c.subcommand_required.ensures ∙ ap requires_one helped in
    ap app_of_fields c.arg_required_else_help.ensures ∙ ap helps one
