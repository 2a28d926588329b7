use Rattle.std.proofs.Common.{rules, ◌≡◌, ℕ, ◌∙◌, true, false, cond, sym}
use Rattle.std.specs.Prelude.{is_some}
use Rattle.cut_detector.specs.Counts.{is_full}
use Rattle.cut_arrivals.specs.candidates.inside.Reported.{alerts_of, rule_of_reported}
use Rattle.cut_arrivals.proofs.HeardLemmas.{hears_next}
use Rattle.cut_arrivals.proofs.CauseLemmas.{full_is, gain_is, causes_push, causes_skip}
use Rattle.cut_arrivals.proofs.candidates.reported.Reported.causes.Goals as goal

pub loop-ring-preserved-then-not-is_cause : goal.loop-ring-preserved-then-not-is_cause
loop-ring-preserved-then-not-is_cause c =
    let t = c.args.self.now in
    let s = c.args.subject in
    let ring = c.loop-ring.ring in
    let heard = c.first_on-heard.result in
    let gained = c.gained-gained.result in
    let counted : c.from-count.result ≡ cond {A = ℕ} (is_some heard) 1 0 = search rules in
    let next = hears_next t.rule.k (λ ring. alerts_of t ring s) s ring t.rule.k
    c.loop-ring.edges_left.now c.split_at.result.1.now c.loop-ring.key_places_left.now
    c.split_at-in-loop-ring.result.1.now
    heard c.from-count.result
    c.loop-ring-test.true c.loop-ring.invariant.edges c.loop-ring.invariant.long c.first_on-heard.ensures counted
    c.split_at.ensures.back c.split_at-in-loop-ring.ensures.back in
    let none : is_full t.rings.now (rule_of_reported t) (alerts_of t) ring s ≡ false =
    full_is t.rings.now (rule_of_reported t) (alerts_of t) s ring heard gained next.is
    (gain_is t.rings.now (rule_of_reported t) (alerts_of t) t.subjects.now ring s gained c.gained-gained.ensures)
    ∙ sym c.is_cause.ensures ∙ c.if-not-is_cause.true in
    record {
      edges = next.rest;
      long = next.long;
      key_places = λ blocks are. next.after blocks (c.loop-ring.invariant.key_places blocks are);
      causes = λ blocks are. causes_skip t blocks s ring c.loop-ring.causes.items none
          (c.loop-ring.invariant.causes blocks are);
    }

pub loop-ring-preserved : goal.loop-ring-preserved
loop-ring-preserved c =
    let t = c.args.self.now in
    let s = c.args.subject in
    let ring = c.loop-ring.ring in
    let heard = c.first_on-heard.result in
    let gained = c.gained-gained.result in
    let counted : c.from-count.result ≡ cond {A = ℕ} (is_some heard) 1 0 = search rules in
    let next = hears_next t.rule.k (λ ring. alerts_of t ring s) s ring t.rule.k
    c.loop-ring.edges_left.now c.split_at.result.1.now c.loop-ring.key_places_left.now
    c.split_at-in-loop-ring.result.1.now
    heard c.from-count.result
    c.loop-ring-test.true c.loop-ring.invariant.edges c.loop-ring.invariant.long c.first_on-heard.ensures counted
    c.split_at.ensures.back c.split_at-in-loop-ring.ensures.back in
    let full : is_full t.rings.now (rule_of_reported t) (alerts_of t) ring s ≡ true =
    full_is t.rings.now (rule_of_reported t) (alerts_of t) s ring heard gained next.is
    (gain_is t.rings.now (rule_of_reported t) (alerts_of t) t.subjects.now ring s gained c.gained-gained.ensures)
    ∙ sym c.is_cause.ensures ∙ c.if-not-is_cause.false in
    record {
      edges = next.rest;
      long = next.long;
      key_places = λ blocks are. next.after blocks (c.loop-ring.invariant.key_places blocks are);
      causes = λ blocks are.
          causes_push t blocks s ring c.loop-ring.causes.items c.push.new.self.items heard gained full
          (next.here blocks (c.loop-ring.invariant.key_places blocks are)) c.gained-gained.ensures
          c.in_ok-push.ensures.items
          (c.loop-ring.invariant.causes blocks are);
    }
