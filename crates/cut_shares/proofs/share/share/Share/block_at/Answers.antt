use Rattle.std.proofs.Common.{arith}
use Rattle.cut_ledger.proofs.CellLemmas.{piece_facts}
use Rattle.cut_shares.proofs.Counting.{in_block}
use Rattle.cut_shares.proofs.share.share.Share.block_at.Goals as goal

pub returns-clause-alike : goal.returns-clause-alike
returns-clause-alike c = λ t from below. grind (arith, piece_facts, in_block)
