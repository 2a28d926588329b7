use Rattle.std.proofs.Common.{◌≡◌, ◌∙◌, ℕ, ◌/◌, ◌%◌, ◌^◌, ◌≤◌, cond, List, ◌++◌, take, drop, length, slice_index, ap}
use Rattle.std.proofs.Common.{sym, subst, arith}
use Rattle.std.specs.List.{All}
use Rattle.std.proofs.Math.Seq.{take-append_seam}
use Rattle.std.proofs.lemmas.List.{length-map}
use Rattle.std.proofs.lemmas.List.Elements.{All-map}
use Rattle.cut_arrivals.specs.blocks.Images.{never}
use Rattle.cut_arrivals.specs.lanes.Lanes.{lane}
use Rattle.cut_arrivals.specs.ranks.Closing.{IsLeast, IsClosing, is_doubtful}
use Rattle.cut_arrivals.specs.proposals.Reception.{lows_at}
use Rattle.cut_arrivals.specs.declared.candidates.candidate.Candidate.{Candidate}
use Rattle.cut_arrivals.specs.candidates.Candidates.{subjects_of}
use Rattle.cut_arrivals.specs.receivers.Received.{reception_of}
use Rattle.cut_arrivals.proofs.Bounds.{low_within, hears}
use Rattle.cut_arrivals.proofs.ReceiversPlaced.{lane_long, subjects_are}
use Rattle.cut_arrivals.proofs.receivers.receivers.Receivers.time_candidates.Goals as goal

pub compute_proposal_time-self-requires-clause-pairs : goal.compute_proposal_time-self-requires-clause-pairs
compute_proposal_time-self-requires-clause-pairs c =
    let written : take c.rank.new.stable_at.len (c.gain.new.stable_at ++ drop
    (length c.gain.new.stable_at) c.rank.new.stable_at.items) ≡ c.gain.new.stable_at =
    grind (arith, take-append_seam) in
    let subjects : List ℕ = subjects_of c.args.trial.candidates.now.candidates.items in
    ap (λ (vs : List (List ℕ)). length vs) c.as_slice-3.ensures.value
    ∙ lane_long 0 _ subjects c.rank.new.reported_at.items (c.rank.ensures.reported_at 0 (omega arith))
    ∙ sym (ap (λ (vs : List (List ℕ)). length vs) (c.as_slice-4.ensures.value ∙ written)
    ∙ lane_long 0 _ subjects c.gain.new.stable_at (c.gain.ensures 0 (omega arith)))

pub compute_proposal_time-self-requires-clause-some : goal.compute_proposal_time-self-requires-clause-some
compute_proposal_time-self-requires-clause-some c =
    let subjects : List ℕ = subjects_of c.args.trial.candidates.now.candidates.items in
    omega (
      arith,
      c.requires.some,
      length-map c.args.trial.candidates.now.candidates.items (λ (d : Candidate). d.subject),
      ap (λ (vs : List (List ℕ)). length vs) c.as_slice-3.ensures.value
          ∙ lane_long 0 _ subjects c.rank.new.reported_at.items (c.rank.ensures.reported_at 0 (omega arith)),
    )

pub compute_proposal_time-self-requires-clause-times : goal.compute_proposal_time-self-requires-clause-times
compute_proposal_time-self-requires-clause-times c i low =
    let x = reception_of c.args.trial (slice_index c.args.receivers i) in
    let f : ℕ → ℕ = λ s. lows_at x never s in
    let subjects : List ℕ = subjects_of c.args.trial.candidates.now.candidates.items in
    subst (All (λ v. v ≤ never))
    (sym (ap (λ (vs : List (List ℕ)). lane i vs) c.as_slice-3.ensures.value ∙ c.rank.ensures.reported_at i low))
    (All-map (λ v. v ≤ never) f subjects (λ k e inside. low_within x _))

pub returns : goal.returns
returns c i low =
    let first : ℕ = slice_index c.compute_proposal_time-self.result.first i in
    let time : ℕ = slice_index c.compute_proposal_time-self.result.time i in
    let written : take c.rank.new.stable_at.len (c.gain.new.stable_at ++ drop
    (length c.gain.new.stable_at) c.rank.new.stable_at.items) ≡ c.gain.new.stable_at =
    subst (λ n. take n (c.gain.new.stable_at ++ drop (length c.gain.new.stable_at) c.rank.new.stable_at.items)
    ≡ c.gain.new.stable_at)
    (c.gain.auto.stable_at ∙ c.deref_mut.ensures.len) (take-append_seam c.gain.new.stable_at (drop
    (length c.gain.new.stable_at) c.rank.new.stable_at.items)) in
    let reported_at_are : lane i c.as_slice-3.result.now ≡ lane i c.rank.new.reported_at.items = ap (λ (vs : List
    (List ℕ)). lane i vs) c.as_slice-3.ensures.value in
    record {
      reception = hears c.args.trial (slice_index c.args.receivers i);
      subjects_are = subjects_are c.receivers_end_alike.ensures.reported c.args.trial (slice_index c.args.receivers i);
      reported_at = c.rank.ensures.reported_at i low;
      stable_at = ap (λ (vs : List (List ℕ)). lane i vs) written ∙ c.gain.ensures i low;
      least = subst (λ (xs : List ℕ). IsLeast xs first) reported_at_are
          (c.compute_proposal_time-self.ensures.first i low);
      proposal_time = subst (λ (xs : List ℕ). IsClosing first (lane i c.rank.new.reported_at.items) xs time)
          (ap (λ (vs : List (List ℕ)). lane i vs) c.as_slice-4.ensures.value)
          (subst (λ (xs : List ℕ). IsClosing first xs (lane i c.as_slice-4.result.now) time) reported_at_are
          (c.compute_proposal_time-self.ensures.time i low));
      doubt = subst (λ (xs : List ℕ). c.compute_proposal_time-self.result.doubt / 2 ^ i % 2 ≡ cond
          (is_doubtful xs first time) 1 0) reported_at_are
          (c.compute_proposal_time-self.ensures.doubt i low);
      kept = rw (c.reserve.ensures.kept_blocks, c.reserve.ensures.kept) (c.requires.kept i low);
    }
