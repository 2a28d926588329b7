-- The counts and the list of touched processes, once an edge counts.
use Rattle.std.proofs.Common.{◌≡◌, ℕ, ◌==◌, Bool, false, nat_le, nat_lt, vec_len, ap, sym, subst}
use Rattle.std.proofs.Common.{◌∙◌, arith}
use Rattle.cut_detector.proofs.Words.{IsDistinct, IsTouched, Tally, eqb-true, marked_in, not_above}
use Rattle.cut_detector.proofs.Words.{rings_full, stable_in}
use Rattle.cut_lists.proofs.Listed.{IsDistinct-listed, listed-room}
use Rattle.cut_detector.proofs.Counting.{moved_count, processes_with-le, IsTouched-touch}
use Rattle.cut_detector.proofs.tally.Tally.add.Goals as goal

abbrev stable : Tally → ℕ → Bool
stable t n = nat_le t.rule.h n

abbrev marked : Tally → ℕ → Bool
marked t n = nat_le t.rule.l n

pub moved-self-requires-clause-few : goal.moved-self-requires-clause-few
moved-self-requires-clause-few c = let t = c.args.self.now
    in omega (arith, t.stable_counted, t.few, processes_with-le (stable_in t.rule t.full) t.full)

pub moved-self-requires-2-clause-few : goal.moved-self-requires-2-clause-few
moved-self-requires-2-clause-few c = let t = c.args.self.now
    in omega (arith, t.marked_counted, t.few, processes_with-le (marked_in t.rule t.full) t.full)

pub moved-self-requires-clause-counted : goal.moved-self-requires-clause-counted
moved-self-requires-clause-counted c =
    grind (
      arith,
      moved_count (stable c.args.self.now) c.args.self.now.full c.add-before.new.self c.args.edge
          c.add-before.ensures.added c.requires.subject c.add-before.ensures.before c.add-before.ensures.after
          c.is_stable.ensures c.is_stable-2.ensures c.args.self.now.stable_counted,
    )

pub moved-self-requires-2-clause-counted : goal.moved-self-requires-2-clause-counted
moved-self-requires-2-clause-counted c =
    grind (
      arith,
      moved_count (marked c.args.self.now) c.args.self.now.full c.add-before.new.self c.args.edge
          c.add-before.ensures.added c.requires.subject c.add-before.ensures.before c.add-before.ensures.after
          c.is_reported.ensures c.is_reported-2.ensures c.args.self.now.marked_counted,
    )

pub invariant_of-self-clause-stable_counted : goal.invariant_of-self-clause-stable_counted
invariant_of-self-clause-stable_counted c =
    grind (
      arith,
      moved_count (stable c.args.self.now) c.args.self.now.full c.add-before.new.self c.args.edge
          c.add-before.ensures.added c.requires.subject c.add-before.ensures.before c.add-before.ensures.after
          c.is_stable.ensures c.is_stable-2.ensures c.args.self.now.stable_counted,
    )

pub invariant_of-self-clause-marked_counted : goal.invariant_of-self-clause-marked_counted
invariant_of-self-clause-marked_counted c =
    grind (
      arith,
      moved_count (marked c.args.self.now) c.args.self.now.full c.add-before.new.self c.args.edge
          c.add-before.ensures.added c.requires.subject c.add-before.ensures.before c.add-before.ensures.after
          c.is_reported.ensures c.is_reported-2.ensures c.args.self.now.marked_counted,
    )

pub touch-requires : goal.touch-requires
touch-requires c is_new =
    let t = c.args.self.now in
    let none : nat_lt 0 (rings_full t.full c.args.edge.subject)
    ≡ false = ap (nat_lt 0) (sym c.add-before.ensures.before ∙ eqb-true _ _ is_new) in
    omega (
      arith,
      t.room,
      t.touched.ok.0,
      listed-room (λ s. nat_lt 0 (rings_full t.full s)) (vec_len t.full.masks)
          t.touched.items c.args.edge.subject t.distinct t.touches c.requires.subject none,
    )

pub invariant_of-self-clause-distinct : goal.invariant_of-self-clause-distinct
invariant_of-self-clause-distinct c =
    let t = c.args.self.now in
    subst (IsDistinct ◌==◌) (sym c.touch.ensures.items)
    (IsDistinct-listed (λ s. nat_lt 0 (rings_full t.full s)) (vec_len t.full.masks) t.touched.items
    c.args.edge.subject _ t.distinct t.touches (ap (λ n. n == 0) c.add-before.ensures.before ∙ not_above _))

pub invariant_of-self-clause-touches : goal.invariant_of-self-clause-touches
invariant_of-self-clause-touches c =
    let t = c.args.self.now in
    subst (IsTouched c.add-before.new.self) (sym c.touch.ensures.items)
    (IsTouched-touch t.full c.add-before.new.self c.args.edge t.touched.items _ c.add-before.ensures.added
    (omega (arith, t.rings, c.requires.ring)) c.requires.subject t.touches
    (ap (λ n. n == 0) c.add-before.ensures.before ∙ not_above _))

pub returns-clause-marks : goal.returns-clause-marks
returns-clause-marks c =
    grind arith
