use Rattle.std.proofs.Common.{◌≡◌, ◌∙◌, ℕ, Bool, not, nat_lt, cond, List, length, filter, slice_index, ap}
use Rattle.cut_arrivals.specs.blocks.Images.{never}
use Rattle.cut_arrivals.specs.lanes.Lanes.{lane}
use Rattle.cut_arrivals.specs.ranks.Closing.{is_doubtful}
use Rattle.cut_arrivals.specs.receivers.LaneVerdicts.{flagged, has_bit, members_at}
use Rattle.cut_arrivals.specs.receivers.inside.LaneVerdicts.{is_other}
use Rattle.cut_arrivals.proofs.ReceiversJudged.{has_ended, members_are, wanted_members, other_members, bit_is, silent_bit}
use Rattle.cut_arrivals.proofs.ReceiversJudged.{found}
use Rattle.cut_arrivals.proofs.ReceiversPlaced.{lane_long}
use Rattle.cut_arrivals.proofs.receivers.receivers.Receivers.judge.Goals as goal

pub returns-clause-finds : goal.returns-clause-finds
returns-clause-finds c x subjects i low h =
    let f = c.args.self.now in
    let flags : List Bool = c.args.wanted.now in
    let first : ℕ = slice_index f.proposal_time.first i in
    let time : ℕ = slice_index f.proposal_time.time i in
    let stable_at : List (List ℕ) = f.stable_at.items in
    let m : ℕ = length stable_at in
    let doubted : Bool = is_doubtful (lane i f.reported_at.items) first time in
    let comes : Bool = nat_lt time never in
    let other : Bool = is_other time (lane i stable_at) flags m in
    let many : m ≡ length subjects = lane_long i _ subjects stable_at h.stable_at in
    let long : length flags ≡ length subjects = c.requires ∙ many in
    let doubt_bit : has_bit f.proposal_time.doubt i ≡ doubted = bit_is doubted _ h.doubt in
    let silent_is : has_bit c.bits_of.result i ≡ not comes = silent_bit comes _ _ (c.bits_of.ensures.bits i low)
    (c.silences.ensures i low) in
    let other_is : has_bit c.bits_of-2.result i ≡ other =
    bit_is other _ (c.bits_of-2.ensures.bits i low ∙ ap (λ b. cond {A = ℕ} b 1 0) (bit_is other _
    (c.others.ensures i low ∙ ap (λ (vs : List (List ℕ)). cond {A = ℕ} (is_other time (lane i vs) flags
    (length vs)) 1 0) c.as_slice.ensures.value))) in
    rw (doubt_bit, silent_is, other_is)
    (found doubted comes other (members_at x) (filter (λ s. has_ended x subjects i f h s) subjects)
    (flagged subjects flags)
    (members_are x subjects i f h c.images_give_the_members.ensures c.candidates_show_the_verdict.ensures.other)
    (wanted_members x subjects i f h flags m long many)
    (other_members x subjects i f h flags m long many))
