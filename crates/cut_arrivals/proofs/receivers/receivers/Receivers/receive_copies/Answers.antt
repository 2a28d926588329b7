use Rattle.std.proofs.Common.{rules, ◌≡◌, ℕ, List, length, sym, subst}
use Rattle.cut_arrivals.specs.receivers.inside.Times.{AreCopies}
use Rattle.cut_arrivals.proofs.Copied.{copies_kept, least_are}
use Rattle.cut_arrivals.proofs.receivers.receivers.Receivers.receive_copies.Goals as goal

pub time_candidates-requires-clause-drawn : goal.time_candidates-requires-clause-drawn
time_candidates-requires-clause-drawn c =
    let t = c.args.trial in
    let js : List ℕ = c.args.receivers in
    let four : length js ≡ 4 = search rules in
    least_are c.deliveries_stand_in_blocks.ensures.rows c.images_are_below_never.ensures t js
    c.len-blocks.result c.from.result c.as_slice-kept.result.now _ four
    (subst (λ (vs : List (List (List ℕ))). AreCopies t js t.copies vs) (sym c.as_slice-kept.ensures.value)
    c.in_ok-keep.ensures.kept)
    (search rules) c.from.ensures c.in_ok-least_of.ensures.many c.in_ok-least_of.ensures.least

pub time_candidates-requires-clause-kept : goal.time_candidates-requires-clause-kept
time_candidates-requires-clause-kept c i low =
    let js : List ℕ = c.args.receivers in
    let four : length js ≡ 4 = search rules in
    copies_kept c.images_are_below_never.ensures c.args.trial js c.keep.new.self.kept.items
    c.keep.new.self.kept_blocks.items i four c.in_ok-keep.ensures.kept c.in_ok-keep.ensures.blocks low
