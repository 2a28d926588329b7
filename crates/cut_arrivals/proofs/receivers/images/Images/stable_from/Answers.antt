use Rattle.std.proofs.Common.{◌≡◌, ◌∙◌, ℕ, ◌≤◌, List, subst, sym, slice_index, ap, arith}
use Rattle.std.specs.List.{All}
use Rattle.cut_arrivals.specs.blocks.Images.{never}
use Rattle.cut_arrivals.specs.ranks.Ranks.{IsRank}
use Rattle.cut_arrivals.specs.lanes.Lanes.{lane}
use Rattle.cut_arrivals.proofs.Bounds.{few_causes}
use Rattle.cut_arrivals.proofs.Counted.{AreKnown, counted, counted_within, counted_high}
use Rattle.cut_arrivals.proofs.receivers.images.Images.stable_from.Goals as goal

pub ranks-requires-clause-few : goal.ranks-requires-clause-few
ranks-requires-clause-few c =
    omega (
      arith,
      few_causes c.args.self.now.trial c.args.candidate.now c.requires.candidate,
      c.gather_counted.ensures.many,
    )

pub ranks-requires-clause-times : goal.ranks-requires-clause-times
ranks-requires-clause-times c i low =
    let t = c.args.self.now.trial in
    let j : ℕ = slice_index c.args.self.now.receivers i in
    let laws = c.few_values_give_lows_and_highs.ensures in
    let known : AreKnown = record {
      least = c.images_stand_in_blocks.ensures;
      others = laws.others;
      ungained = laws.ungained;
      gained = laws.gained;
      high = laws.high;
    } in
    let values : lane i c.as_slice.result.now ≡ counted t c.args.candidate.now j =
    ap (λ (vs : List (List ℕ)). lane i vs) c.as_slice.ensures.value ∙ c.gather_counted.ensures.times i low in
    subst (All (λ v. v ≤ never)) (sym values) (counted_within known t c.args.candidate.now j c.requires.candidate)

pub returns-clause-high : goal.returns-clause-high
returns-clause-high c i low =
    let t = c.args.self.now.trial in
    let j : ℕ = slice_index c.args.self.now.receivers i in
    let laws = c.few_values_give_lows_and_highs.ensures in
    let known : AreKnown = record {
      least = c.images_stand_in_blocks.ensures;
      others = laws.others;
      ungained = laws.ungained;
      gained = laws.gained;
      high = laws.high;
    } in
    let values : lane i c.as_slice.result.now ≡ counted t c.args.candidate.now j =
    ap (λ (vs : List (List ℕ)). lane i vs) c.as_slice.ensures.value ∙ c.gather_counted.ensures.times i low in
    counted_high known t c.args.candidate.now j (slice_index c.ranks.result.1 i) c.requires.candidate
    (subst (λ (xs : List ℕ). IsRank never t.rule.h xs (slice_index c.ranks.result.1 i)) values
    (c.ranks.ensures.high i low))
