use Rattle.std.proofs.Common.{arith}
use Rattle.cut_ledger.proofs.CellLemmas.{cell_is, piece_facts}
use Rattle.cut_shares.proofs.share.share_pieces.SharePieces.take_block.Goals as goal

pub invariant_of-self-clause-rest_fits : goal.invariant_of-self-clause-rest_fits
invariant_of-self-clause-rest_fits c = grind (arith, piece_facts, cell_is)

pub returns-clause-piece : goal.returns-clause-piece
returns-clause-piece c = grind (arith, piece_facts, cell_is)
