use Rattle.std.proofs.Common.{◌≡◌, ◌∙◌, ◌+◌, ◌<◌, ℕ, List, fold, length, rules, sym, take}
use Rattle.std.specs.Prelude.{get_or}
use Rattle.std.proofs.lemmas.List.{take_all}
use Rattle.std.proofs.lemmas.List.Sums.{fold_more}
use Rattle.cut_command_line.specs.declared.options.commands.Described.{Described}
use Rattle.cut_command_line.specs.options.inside.Options.{bare_app, with_command}
use Rattle.cut_command_line.proofs.options.commands.add_all.Goals as goal

one_more : (commands : List Described) (i : ℕ) (d : Described) → i < length commands
    → with_command (fold with_command bare_app (take i commands)) (get_or commands i d)
    ≡ fold with_command bare_app (take (i + 1) commands)
one_more commands i d below = sym (fold_more with_command bare_app commands i d below)

pub loop-described-preserved : goal.loop-described-preserved
loop-described-preserved c =
    rw c.loop-described.invariant at c.in_ok-program.ensures ∙ search (rules, one_more)

pub returns : goal.returns
returns c = rw (sym (take_all _ _ c.loop-described-test.false)) c.loop-described.invariant
