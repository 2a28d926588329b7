use Rattle.std.proofs.Common.{◌≡◌, ◌∙◌, sym, arith, true, false}
use Rattle.cut_lists.proofs.Ranges.{filter_kept, filter_left}
use Rattle.cut_rings.specs.Edges.{set_of}
use Rattle.cut_detector.specs.Rule.{rule_in}
use Rattle.cut_detector.specs.Counts.{is_reported}
use Rattle.cut_arrivals.proofs.RunLemmas.{next_run, few_run, reported_by}
use Rattle.cut_arrivals.proofs.candidates.runs.reported_subjects.Goals as goal

pub split_at-requires : goal.split_at-requires
split_at-requires c =
    let next = next_run c.args.rule.k c.args.nodes
    (set_of c.args.edges.now) c.loop-subject.subject c.loop-subject.rest.now c.run_len.result
    c.loop-subject-test.true c.loop-subject.invariant.rest c.run_len.ensures in
    omega (arith, next.long)

pub overflow_cast-first : goal.overflow_cast-first
overflow_cast-first c =
    grind (
      arith,
      next_run c.args.rule.k c.args.nodes (set_of c.args.edges.now) c.loop-subject.subject
          c.loop-subject.rest.now c.run_len.result c.loop-subject-test.true c.loop-subject.invariant.rest c.run_len.ensures,
      few_run c.args.rule.k (set_of c.args.edges.now) c.loop-subject.subject,
    )

pub loop-subject-preserved-then-not-is_reported : goal.loop-subject-preserved-then-not-is_reported
loop-subject-preserved-then-not-is_reported c =
    let E = set_of c.args.edges.now in
    let s = c.loop-subject.subject in
    let rule = rule_in c.args.rule in
    let next = next_run c.args.rule.k c.args.nodes E s c.loop-subject.rest.now c.run_len.result
    c.loop-subject-test.true c.loop-subject.invariant.rest c.run_len.ensures in
    let none : is_reported rule E s ≡ false =
    sym (reported_by rule E s c.split_at.result.0.now (c.split_at.ensures.front ∙ next.first))
    ∙ sym c.is_reported.ensures ∙ c.if-not-is_reported.true in
    record {
      rest = c.split_at.ensures.back ∙ next.rest;
      subjects = filter_left (λ s.
          is_reported rule E s) s c.loop-subject.subjects.items none c.loop-subject.invariant.subjects;
    }

pub loop-subject-preserved : goal.loop-subject-preserved
loop-subject-preserved c =
    let E = set_of c.args.edges.now in
    let s = c.loop-subject.subject in
    let rule = rule_in c.args.rule in
    let next = next_run c.args.rule.k c.args.nodes E s c.loop-subject.rest.now c.run_len.result
    c.loop-subject-test.true c.loop-subject.invariant.rest c.run_len.ensures in
    let passes : is_reported rule E s ≡ true =
    sym (reported_by rule E s c.split_at.result.0.now (c.split_at.ensures.front ∙ next.first))
    ∙ sym c.is_reported.ensures ∙ c.if-not-is_reported.false in
    record {
      rest = c.split_at.ensures.back ∙ next.rest;
      subjects = c.in_ok-push.ensures.items
          ∙ filter_kept (λ s. is_reported rule E s) s c.loop-subject.subjects.items passes
          c.loop-subject.invariant.subjects;
    }
