use Rattle.std.proofs.Common.{◌∙◌}
use Rattle.clap.specs.Words.{found_of}
use Rattle.clap.proofs.WalkLemmas.{one_text-rows}
use Rattle.cut_command_line.proofs.line.flag_given.Goals as goal

pub returns : goal.returns
returns c =
    let rows = one_text-rows (found_of c.args.given.now) c.args.flag.now in
    record {
      none = λ is. c.get_flag.ensures.none (rows ∙ is);
      yes = λ is. c.get_flag.ensures.value (rows ∙ is);
      no = λ is. c.get_flag.ensures.other (rows ∙ is);
    }
