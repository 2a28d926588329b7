use Rattle.std.proofs.Common.{arith}
use Rattle.cut_journal.proofs.Headers.{has_can, header_room}
use Rattle.cut_journal.proofs.first_bytes.header_text.Goals as goal

pub returns-then-bytes-lt13-clause-none : goal.returns-then-bytes-lt13-clause-none
returns-then-bytes-lt13-clause-none c =
    grind (arith, header_room, has_can)

pub returns-then-length-bytes-clause-none : goal.returns-then-length-bytes-clause-none
returns-then-length-bytes-clause-none c =
    grind (arith, header_room, has_can)
