-- Bounds of times, of candidates' values, and what agrees on all elements.
use Rattle.std.proofs.Common.{ℕ, ◌≤◌, List, length, arith}
use Rattle.std.proofs.lemmas.List.{length-map}
use Rattle.std.proofs.lemmas.List.FromFn.{length-range_with_len}
use Rattle.std.proofs.lemmas.List.Sums.{count_by-le-length}
use Rattle.cut_lists.proofs.Ranges.{few_filtered}
unfoldable use Rattle.cut_arrivals.specs.ranks.Ranks.{rank_at}
use Rattle.cut_arrivals.specs.blocks.Images.{never}
use Rattle.cut_arrivals.specs.proposals.Times.{times_to}
unfoldable use Rattle.cut_arrivals.specs.proposals.Times.{low_of, full_time, high_of}
use Rattle.cut_arrivals.specs.proposals.Reception.{Reception, IsReception, images_at, lows_at, highs_at}
use Rattle.cut_arrivals.specs.declared.candidates.candidate.Candidate.{Candidate}
use Rattle.cut_arrivals.specs.declared.receivers.trial.Trial.{Trial}
use Rattle.cut_arrivals.specs.receivers.Received.{reception_of}
use Rattle.cut_arrivals.specs.receivers.inside.Times.{IsCandidateOf}

-- ---- no time is after `never`

rank_within : (end r : ℕ) (xs : List ℕ) → rank_at end r xs ≤ end
unfolding rank_at
rank_within end r xs = grind (arith, count_by-le-length, length-range_with_len)

pub image_within : (x : Reception) (ring s : ℕ) → images_at x never ring s ≤ never
image_within x ring s = rank_within never 1 _

pub low_within : (x : Reception) (s : ℕ) → lows_at x never s ≤ never
unfolding low_of
low_within x s = rank_within never x.rule.l (times_to x.rule.k (images_at x never) s)

pub high_within : (x : Reception) (s : ℕ) → highs_at x never s ≤ never
unfolding high_of
high_within x s = rank_within never x.rule.h (times_to x.rule.k (full_time never x.layout x.rule (images_at x never)) s)

pub full_within : (x : Reception) (ring s : ℕ) → full_time never x.layout x.rule (images_at x never) ring s ≤ never
unfolding full_time
full_within x ring s = grind (arith, image_within)

-- ---- a candidate has at most as many alerts, and rings that count, as there are rings

pub hears : (t : Trial) (j : ℕ) → IsReception (reception_of t j)
hears t j = record { layout = t.layout; rings = t.within; rule = record { low = t.rule.low; gap = t.rule.thresholds } }

pub few_heard : (t : Trial) (d : Candidate) → IsCandidateOf t d → length d.heard.items ≤ 32
few_heard t d is =
    grind (arith, few_filtered, length-map)

pub few_causes : (t : Trial) (d : Candidate) → IsCandidateOf t d → length d.causes.items ≤ 32
few_causes t d is =
    grind (arith, few_filtered, length-map)
