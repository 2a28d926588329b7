-- Without implicit alerts nothing is gained. With them one ring more, and at the end all rings.
use Rattle.std.proofs.Common.{◌≡◌, ◌<◌, length, cond, refl, ap, sym, ◌∙◌, arith}
use Rattle.cut_detector.proofs.Words.{edges_in, eq-eqb, eqb-true, is_gained, is_reported}
use Rattle.cut_detector.proofs.Words.{observer_of, reported_in, rule_of_gains, with_edge}
use Rattle.cut_detector.proofs.Neighbours.{with_gains-more, length-added, observer_of-is, gained_own}
use Rattle.cut_detector.proofs.Neighbours.{gained_theirs}
use Rattle.cut_detector.proofs.gains.Gains.enter.Goals as goal

pub returns-then-not-self-clause-full : goal.returns-then-not-self-clause-full
returns-then-not-self-clause-full c =
    grind arith

pub loop-ring-preserved : goal.loop-ring-preserved
loop-ring-preserved c =
    let g = c.args.self.now in
    let r = g.rings.now in
    let rule = rule_of_gains g in
    let s = c.args.process in
    let u = c.subject-subject.result in
    let i = c.loop-ring.ring in
    let low : i < length r.positions = omega (arith, g.rings_enough, c.loop-ring-test.true) in
    let before = c.loop-ring.tally.full.masks.items in
    let mid = c.gain.new.tally.full.masks.items in
    let after = c.gain-in-loop-ring.new.tally.full.masks.items in
    let wide : length before ≡ r.nodes = omega (
      arith,
      c.loop-ring.tally.full.masks.ok.0,
      c.loop-ring.invariant.long,
      c.requires.tally.long,
    ) in
    let same : length after ≡ length before = ap length c.gain-in-loop-ring.ensures.full ∙ length-added _ _ _
    ∙ ap length c.gain.ensures.full ∙ length-added _ _ _ in
    let observer : observer_of r i u ≡ s = eqb-true _ _
    (observer_of-is r g.layout i s u u low c.requires.process c.subject-subject.ensures.in_range
    c.subject-subject.ensures.in_range c.subject-subject.ensures.observes ∙ eq-eqb u u refl) in
    let own : is_gained r rule (reported_in g) i s ≡ is_reported rule (reported_in g) c.observer-observer.result =
    gained_own _ _ _ c.if-not-self.false c.requires.reported
    ∙ sym (ap (is_reported rule (reported_in g)) c.observer-observer.ensures.value) in
    let theirs : is_gained r rule (reported_in g) i u ≡ is_reported rule (reported_in g) u =
    gained_theirs _ _ _ c.if-not-self.false (ap (is_reported rule (reported_in g)) observer ∙ c.requires.reported) in
    record {
      rule = c.gain-in-loop-ring.ensures.rule ∙ c.gain.ensures.rule ∙ c.loop-ring.invariant.rule;
      long = omega (
        arith,
        same,
        c.gain-in-loop-ring.new.tally.full.masks.ok.0,
        c.loop-ring.tally.full.masks.ok.0,
        c.loop-ring.invariant.long,
      );
      full = λ ring p process.
          with_gains-more r g.layout (is_gained r rule (reported_in g)) s i u low c.requires.process
          c.subject-subject.ensures.in_range c.subject-subject.ensures.observes
          (edges_in c.args.tally.now.full.masks.items) before mid after wide
          (c.gain.ensures.full ∙ ap (λ b. cond b (with_edge before (record { ring = i; subject = s })) before)
          (sym own))
          (c.gain-in-loop-ring.ensures.full ∙ ap (λ b. cond b (with_edge mid (record { ring = i; subject = u })) mid)
          (sym theirs))
          ring p process (c.loop-ring.invariant.full ring p process);
    }

pub returns-clause-full : goal.returns-clause-full
returns-clause-full c =
    grind arith
