use Rattle.cut_ledger.proofs.FillLemmas.{pieces_fill, complete_is_done, filled_give}
use Rattle.cut_ledger.proofs.laws.pieces_fill_a_ledger.Goals as goal

pub returns : goal.returns
returns c = record {
  fill = pieces_fill c.spans_are_what_passes.ensures.cover;
  done = complete_is_done;
  table = filled_give c.spans_are_what_passes.ensures.cover;
}
