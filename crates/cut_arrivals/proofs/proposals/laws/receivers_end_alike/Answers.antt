use Rattle.cut_arrivals.proofs.Ends.{ends_reported_alike, ends_stable_alike}
use Rattle.cut_arrivals.proofs.proposals.laws.receivers_end_alike.Goals as goal

pub returns : goal.returns
returns c = record {
  reported = ends_reported_alike c.images_are_below_never.ensures;
  stable = ends_stable_alike c.images_are_below_never.ensures;
}
