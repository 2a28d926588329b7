use Rattle.std.proofs.Common.{arith}
use Rattle.cut_commands.proofs.InputLemmas.{take_filled}
use Rattle.cut_commands.proofs.Logs.{read_more}
use Rattle.cut_commands.proofs.input.fill_buffer.Goals as goal

pub loop-filled-preserved : goal.loop-filled-preserved
loop-filled-preserved g c =
    grind (arith, read_more, take_filled)
