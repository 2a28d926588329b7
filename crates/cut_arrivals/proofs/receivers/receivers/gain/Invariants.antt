use Rattle.std.proofs.Common.{◌≡◌, vec_capacity}
use Rattle.cut_arrivals.specs.receivers.inside.Times.{AreStableAtTo}
use Rattle.cut_arrivals.proofs.receivers.receivers.gain.Given as goal

-- the highs of the candidates so far, and of those that gain no ring
abbrev pub invariant-loop-place : goal.invariant-loop-place
invariant-loop-place l = record {
  stable_at : AreStableAtTo l.images l.place l.stable_at;
  values : vec_capacity l.values ≡ vec_capacity l.initial.values;
}
