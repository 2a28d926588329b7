-- The touched processes that are stable, sorted, are the stable ones.
use Rattle.std.proofs.Common.{◌≡◌, ◌&&◌, ◌<◌, ◌≤◌, nat_lt, vec_len, vec_capacity, rules, subst, ap, ◌∙◌, arith}
use Rattle.cut_detector.proofs.Words.{IsPermutation, and-true, filter, leb-true, lt-ltb, rings_full, stable_in}
use Rattle.cut_detector.proofs.Words.{take_all}
use Rattle.cut_lists.proofs.Ascending.{sorted-filter}
use Rattle.cut_lists.proofs.Listed.{listed-few}
use Rattle.cut_detector.proofs.Counting.{touched-all}
use Rattle.cut_detector.proofs.tally.Tally.gather.Goals as goal

pub count-requires : goal.count-requires
count-requires c =
    grind (arith, touched-all c.args.self.now.full c.args.self.now.touched.items c.args.self.now.touches)

pub unwrap-requires : goal.unwrap-requires
unwrap-requires c =
    let t = c.args.self.now in
    let few : vec_len c.loop-subject.members < vec_capacity c.loop-subject.members = omega (
      arith,
      c.deref-subject-items.ensures.len,
      t.touched.ok.0,
      listed-few (λ s. nat_lt 0 (rings_full t.full s))
          (vec_len t.full.masks) t.touched.items t.distinct t.touches,
    ) in
    search rules

pub returns-clause-members : goal.returns-clause-members
returns-clause-members c =
    let t = c.args.self.now in
    let whole : c.loop-subject.members.items ≡ filter (stable_in t.rule t.full) t.touched.items =
    c.loop-subject.invariant.members ∙ ap (filter (stable_in t.rule t.full))
    (take_all c.loop-subject.subject-index t.touched.items (omega arith)) in
    sorted-filter (stable_in t.rule t.full) (vec_len t.full.masks) t.touched.items _ t.distinct (λ q passes.
    let some : t.rule.h ≤ rings_full t.full q = leb-true _ _ passes in
    t.touches q ∙ ap (λ b. nat_lt q (vec_len t.full.masks) && b)
    (lt-ltb 0 (rings_full t.full q) (omega (arith, t.rule.low, t.rule.thresholds))) ∙ and-true _)
    (subst (λ xs. IsPermutation xs c.sort_unstable.new.self.items) whole c.sort_unstable.ensures.permutation)
    c.sort_unstable.ensures.sorted
