-- A gap ends within the plan, and its parts are pieces as it is.
use Rattle.std.proofs.Common.{arith}
use Rattle.std.proofs.lemmas.List.{take_all}
use Rattle.cut_ledger.proofs.GapPieces.{pieces_are_pieces}
use Rattle.cut_ledger.proofs.ledger.Ledger.pieces.Goals as goal

pub returns-clause-pieces : goal.returns-clause-pieces
returns-clause-pieces c =
    grind (arith, take_all, pieces_are_pieces)
