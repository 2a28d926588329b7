use Rattle.cut_arrivals.proofs.Modes.{reported_from_low, counts_from_full, stable_from_high, unstable_between}
use Rattle.cut_arrivals.proofs.proposals.laws.modes_follow_from_times.Goals as goal

pub returns : goal.returns
returns c = record {
  reported = reported_from_low;
  counting = counts_from_full;
  stable = stable_from_high;
  unstable = unstable_between;
}
