use Rattle.std.proofs.Common.{◌≡◌, ℕ, ◌<◌, ◌≤◌, length, map, take, vec_len, vec_capacity}
use Rattle.cut_arrivals.specs.lanes.Lanes.{lane}
use Rattle.cut_arrivals.specs.candidates.Candidates.{cause_in}
use Rattle.cut_arrivals.specs.receivers.inside.Times.{reception_in, subjects_in, time_of_cause}
use Rattle.cut_arrivals.proofs.receivers.images.Images.gather_counted.Given as goal

-- the times of the causes so far
abbrev pub invariant-loop-cause : goal.invariant-loop-cause
invariant-loop-cause l = record {
  times : (i : ℕ) → i < 4 → lane i l.values.items
      ≡ map (λ c. time_of_cause (reception_in l.self i) l.candidate.subject
      (cause_in l.self.trial.candidates.now.blocks.items (subjects_in l.self) c))
      (take l.cause-index l.candidate.causes.items);
  many : vec_len l.values ≡ l.cause-index;
  room : length l.candidate.causes.items ≤ vec_capacity l.values;
  capacity : vec_capacity l.values ≡ vec_capacity l.initial.values;
}
