use Rattle.std.proofs.Common.{◌++◌, codes, ap, ◌∙◌}
use Rattle.cut_commands.specs.Check.{number_line}
use Rattle.cut_commands.specs.Migrate.{moved_text}
use Rattle.cut_commands.proofs.migrate_command.moved_text.Goals as goal

pub returns : goal.returns
unfolding moved_text
returns c =
    c.in_ok-push_line.ensures
    ∙ ap (λ xs. xs ++ number_line (codes "migrated") c.args.count) c.new-text.ensures.bytes
