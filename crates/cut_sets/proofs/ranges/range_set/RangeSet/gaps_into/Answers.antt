use Rattle.std.proofs.Common.{◌∙◌, not, ap, arith}
use Rattle.cut_sets.specs.ranges.Held.{has}
use Rattle.cut_sets.proofs.SpanLemmas.{gaps_step, spans_last}
use Rattle.cut_sets.proofs.ranges.range_set.RangeSet.gaps_into.Goals as goal

pub loop-from-init : goal.loop-from-init
loop-from-init c =
    grind arith

pub loop-from-preserved : goal.loop-from-preserved
loop-from-preserved c =
    grind arith

pub loop-from-preserved-in_ok-push_gap : goal.loop-from-preserved-in_ok-push_gap
loop-from-preserved-in_ok-push_gap c =
    let run = c.run_at-run.ensures.run in
    let longer = run.longer in
    let order = c.loop-from.invariant.order in
    record {
      order = omega arith;
      within = omega arith;
      free = λ t low high. absurd (omega arith);
      so_far = gaps_step (λ t. not (has c.args.self.now t)) c.loop-from.start c.loop-from.from c.min-next.result
          c.end_of-end.result c.loop-from.gaps.items c.push_gap.new.gaps.items _ order (omega arith) (omega arith)
          (λ t low high. ap not (c.loop-from.invariant.free t low high))
          (λ t low high. ap not (run.lasts t low (omega arith) ∙ c.if-run.true))
          c.in_ok-push_gap.ensures c.loop-from.invariant.so_far;
    }

pub returns : goal.returns
returns c =
    grind (arith, spans_last)
