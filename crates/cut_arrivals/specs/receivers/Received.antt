-- What four receivers of a trial get, a receiver in each lane, and what they propose by that.
use Rattle.std.specs.Prelude.{◌≡◌, ℕ, ◌+◌, ◌*◌, ◌/◌, ◌%◌, ◌^◌, ◌<◌, cond, nat_lt, List, [], map, filter, length}
use Rattle.std.specs.Prelude.{slice_index, slice_index_or}
use Rattle.std.specs.List.{range_with_len}
use Rattle.cut_detector.specs.Rule.{rule_in}
use Rattle.cut_arrivals.specs.ranks.Closing.{IsLeast, IsClosing, is_doubtful}
use Rattle.cut_arrivals.specs.lanes.Lanes.{lane}
use Rattle.cut_arrivals.specs.blocks.Images.{never, image_at, place_in, row_of}
use Rattle.cut_arrivals.specs.proposals.Reception.{Reception, IsReception, lows_at, highs_at}
use Rattle.cut_arrivals.specs.declared.receivers.trial.Trial.{Trial}
use Rattle.cut_arrivals.specs.declared.receivers.receivers.Receivers as declared

-- receiver j of a trial
abbrev pub reception_of : Trial → ℕ → Reception
reception_of t j = record {
  source = t.blocks.now;
  receiver = j;
  layout = t.rings.now;
  rule = rule_in t.rule;
  edges = t.edges.now;
  copies = t.copies;
}

-- in lane i stand the images at a receiver of all keys of the blocks that are kept, one copy after another
abbrev pub HasKept : Reception → ℕ → declared.Receivers → Type 0
HasKept x i f =
    (c b q : ℕ) → c < x.copies → b < length f.kept_blocks.items → q < 8
    → slice_index (slice_index_or (slice_index_or f.kept.items (c * length f.kept_blocks.items + b) []) q []) i
    ≡ image_at x.source (place_in (row_of c x.receiver + slice_index f.kept_blocks.items b) q)

-- in lane i stand the lows and highs at a receiver of all processes that are reported there in the end, with their
-- proposal time, and no image is kept that isn't of its keys
pub record HasReceived (x : Reception) (subjects : List ℕ) (i : ℕ) (f : declared.Receivers) : Type 0 where
  pub reception : IsReception x
  pub subjects_are : subjects ≡ filter (λ s. nat_lt (lows_at x never s) never) (range_with_len 0 x.layout.nodes)
  pub reported_at : lane i f.reported_at.items ≡ map (λ s. lows_at x never s) subjects
  pub stable_at : lane i f.stable_at.items ≡ map (λ s. highs_at x never s) subjects
  pub least : IsLeast (lane i f.reported_at.items) (slice_index f.proposal_time.first i)
  pub proposal_time : IsClosing (slice_index f.proposal_time.first i) (lane i f.reported_at.items)
      (lane i f.stable_at.items)
      (slice_index f.proposal_time.time i)
  pub doubt : f.proposal_time.doubt / 2 ^ i % 2 ≡ cond (is_doubtful (lane i f.reported_at.items)
      (slice_index f.proposal_time.first i)
      (slice_index f.proposal_time.time i)) 1 0
  pub kept : HasKept x i f
