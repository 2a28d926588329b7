use Rattle.std.proofs.Common.{◌∙◌, ℕ, eqb, Bool, cond, List, [], ◌∷◌, take, slice_index, slice_index_or, sym, ap}
use Rattle.std.specs.List.{list_any}
use Rattle.std.proofs.lemmas.List.{get_or-replicate}
use Rattle.std.proofs.lemmas.List.Folds.{list_any-append}
use Rattle.cut_arrivals.specs.lanes.Lanes.{lane}
use Rattle.cut_arrivals.proofs.LanesChoices.{mark_or}
use Rattle.cut_arrivals.proofs.Insertions.{taken_lane, all_lane}
use Rattle.cut_arrivals.proofs.lanes.proposal_time.marks.Goals as goal

pub loop-low-init : goal.loop-low-init
loop-low-init c i low = get_or-replicate 4 i 0 0 low

pub loop-low-preserved : goal.loop-low-preserved
loop-low-preserved c i low =
    let place : ℕ = c.loop-low.low-index in
    let reported_at : List (List ℕ) = c.args.reported_at.now in
    let x : ℕ = slice_index (slice_index_or reported_at place []) i in
    let is_time : ℕ → Bool = λ y. eqb y (slice_index c.args.time i) in
    let xs : List ℕ = take place (lane i reported_at) in
    c.marked-next.ensures i low
    ∙ ap (λ m. cond {A = ℕ} (is_time x) 1 m) (c.loop-low.invariant i low)
    ∙ mark_or (is_time x) (list_any is_time xs)
    ∙ ap (λ b. cond {A = ℕ} b 1 0)
    (sym (ap (λ ys. list_any is_time ys) (taken_lane i place reported_at c.loop-low-test.true)
    ∙ list_any-append is_time xs (x ∷ [])))

pub returns : goal.returns
returns c i low =
    c.loop-low.invariant i low
    ∙ ap (λ ys. cond {A = ℕ} (list_any (λ y. eqb y (slice_index c.args.time i)) ys) 1 0)
    (all_lane i c.loop-low.low-index c.args.reported_at.now c.loop-low-test.false)
