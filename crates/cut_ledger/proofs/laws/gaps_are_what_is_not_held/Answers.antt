use Rattle.cut_ledger.proofs.CoverLemmas.{gaps_cover, pieces_cover}
use Rattle.cut_ledger.proofs.laws.gaps_are_what_is_not_held.Goals as goal

pub returns : goal.returns
returns c = record {
  gaps = gaps_cover c.spans_are_what_passes.ensures.cover;
  pieces = pieces_cover c.spans_are_what_passes.ensures.cover;
}
