use Rattle.std.proofs.Common.{◌∙◌, sym, codes}
use Rattle.clap.specs.Words.{found_of}
use Rattle.clap.proofs.WalkLemmas.{first_value-rows}
use Rattle.cut_command_line.proofs.line.plan_given.Goals as goal

pub returns : goal.returns
returns c = sym (first_value-rows (found_of c.args.given.now) (codes "plan")) ∙ sym c.get_str.ensures
