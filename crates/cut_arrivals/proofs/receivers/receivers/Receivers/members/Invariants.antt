use Rattle.std.proofs.Common.{◌≡◌, ◌≤◌, nat_le, length, take, filter, slice_index, vec_len, vec_capacity}
use Rattle.cut_arrivals.specs.blocks.Images.{never}
use Rattle.cut_arrivals.specs.proposals.Reception.{Reception, highs_at}
use Rattle.cut_arrivals.specs.candidates.Candidates.{subjects_of}
use Rattle.cut_arrivals.specs.receivers.Received.{HasReceived}
use Rattle.cut_arrivals.proofs.receivers.receivers.Receivers.members.Given as goal

-- of the candidates so far those that have ended
abbrev pub invariant-loop-place : goal.invariant-loop-place
invariant-loop-place l = record {
  members : (x : Reception) → HasReceived x (subjects_of l.candidates.candidates.items) l.lane l.self
      → l.members.items ≡ filter (λ s. nat_le (highs_at x never s) (slice_index l.self.proposal_time.time l.lane))
      (take l.place (subjects_of l.candidates.candidates.items));
  many : vec_len l.members ≤ l.place;
  room : length l.candidates.candidates.items ≤ vec_capacity l.members;
}
