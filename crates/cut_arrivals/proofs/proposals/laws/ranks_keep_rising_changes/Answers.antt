use Rattle.cut_arrivals.proofs.Rises.{ranks_rise, lows_rise, highs_rise}
use Rattle.cut_arrivals.proofs.proposals.laws.ranks_keep_rising_changes.Goals as goal

pub returns : goal.returns
returns c = record { ranks = ranks_rise; reported_at = lows_rise; stable_at = highs_rise }
