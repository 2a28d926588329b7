use Rattle.std.proofs.Common.{◌≡◌, ℕ, ◌<◌, ◌≤◌, false, [], length, map, take, slice_index_or, vec_len, vec_capacity}
use Rattle.cut_arrivals.specs.blocks.Images.{never}
use Rattle.cut_arrivals.specs.lanes.Lanes.{lane}
use Rattle.cut_arrivals.specs.proposals.Reception.{lows_at}
use Rattle.cut_arrivals.specs.declared.candidates.candidate.Candidate.{Candidate}
use Rattle.cut_arrivals.specs.receivers.inside.Times.{reception_in, IsHigh}
use Rattle.cut_arrivals.proofs.receivers.receivers.rank.Given as goal

-- the times of the candidates so far
abbrev pub invariant-loop-candidate : goal.invariant-loop-candidate
invariant-loop-candidate l = record {
  reported_at : (i : ℕ) → i < 4 → lane i l.reported_at.items
      ≡ map (λ d. lows_at (reception_in l.images i) never d.subject)
      (take l.candidate-index l.images.trial.candidates.now.candidates.items);
  stable_at : (u : ℕ) (d : Candidate) → u < l.candidate-index
      → (slice_index_or l.images.trial.candidates.now.candidates.items u d).gains ≡ false
      → IsHigh l.images (slice_index_or l.images.trial.candidates.now.candidates.items u d).subject
      (slice_index_or l.stable_at.items u []);
  many_reported_at : vec_len l.reported_at ≡ l.candidate-index;
  many_stable_at : vec_len l.stable_at ≡ l.candidate-index;
  room_reported_at : length l.images.trial.candidates.now.candidates.items ≤ vec_capacity l.reported_at;
  room_stable_at : length l.images.trial.candidates.now.candidates.items ≤ vec_capacity l.stable_at;
  values : vec_capacity l.values ≡ vec_capacity l.initial.values;
}
