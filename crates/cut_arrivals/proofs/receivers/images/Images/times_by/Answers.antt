use Rattle.std.proofs.Common.{ℕ, ◌≤◌, List, subst, sym, slice_index, arith}
use Rattle.std.specs.List.{All}
use Rattle.cut_arrivals.specs.blocks.Images.{never}
use Rattle.cut_arrivals.specs.ranks.Ranks.{IsRank}
use Rattle.cut_arrivals.proofs.Bounds.{few_heard}
use Rattle.cut_arrivals.proofs.ReceiversHeard.{gathered_within, low_is, high_is}
use Rattle.cut_arrivals.proofs.receivers.images.Images.times_by.Goals as goal

pub ranks-requires-clause-few : goal.ranks-requires-clause-few
ranks-requires-clause-few c =
    omega (arith, few_heard c.args.self.now.trial c.args.candidate.now c.requires.candidate, c.requires.heard.many)

pub ranks-requires-clause-times : goal.ranks-requires-clause-times
ranks-requires-clause-times c i low =
    subst (All (λ v. v ≤ never)) (sym (c.requires.heard.lanes i low))
    (gathered_within c.images_stand_in_blocks.ensures c.args.self.now.trial c.args.candidate.now
    (slice_index c.args.self.now.receivers i) c.requires.candidate)

pub returns-clause-low : goal.returns-clause-low
returns-clause-low c i low =
    let t = c.args.self.now.trial in
    let v : ℕ = slice_index c.ranks.result.0 i in
    low_is c.images_stand_in_blocks.ensures c.few_values_give_lows_and_highs.ensures.low t c.args.candidate.now
    (slice_index c.args.self.now.receivers i) v c.requires.candidate
    (subst (λ (xs : List ℕ). IsRank never t.rule.l xs v) (c.requires.heard.lanes i low) (c.ranks.ensures.low i low))

pub returns-clause-high : goal.returns-clause-high
returns-clause-high c none i low =
    let t = c.args.self.now.trial in
    let v : ℕ = slice_index c.ranks.result.1 i in
    high_is c.images_stand_in_blocks.ensures c.few_values_give_lows_and_highs.ensures.high
    c.few_values_give_lows_and_highs.ensures.ungained t c.args.candidate.now
    (slice_index c.args.self.now.receivers i) v c.requires.candidate none
    (subst (λ (xs : List ℕ). IsRank never t.rule.h xs v) (c.requires.heard.lanes i low) (c.ranks.ensures.high i low))
