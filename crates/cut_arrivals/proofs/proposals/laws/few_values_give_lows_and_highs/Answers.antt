use Rattle.cut_arrivals.proofs.Values.{others_never_come, ungained_by_image, gained_by_lows, low_is_rank, high_is_rank}
use Rattle.cut_arrivals.proofs.Values.{reported_are_candidates}
use Rattle.cut_arrivals.proofs.proposals.laws.few_values_give_lows_and_highs.Goals as goal

pub returns : goal.returns
returns c = record {
  others = others_never_come c.images_are_below_never.ensures;
  ungained = ungained_by_image c.images_are_below_never.ensures;
  gained = gained_by_lows;
  low = low_is_rank c.images_are_below_never.ensures;
  high = high_is_rank c.images_are_below_never.ensures;
  candidates = reported_are_candidates c.images_are_below_never.ensures;
}
