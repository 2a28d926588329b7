use Rattle.std.proofs.Common.{arith}
use Rattle.cut_arrivals.specs.candidates.inside.Reported.{alerts_of}
use Rattle.cut_arrivals.proofs.RunLemmas.{next_run, few_edges}
use Rattle.cut_arrivals.proofs.CandidateLemmas.{are_all}
use Rattle.cut_arrivals.proofs.candidates.reported.Reported.candidates.Goals as goal

pub split_at-requires : goal.split_at-requires
split_at-requires c =
    grind (
      arith,
      next_run c.args.self.now.rule.k c.args.self.now.rings.now.nodes (alerts_of c.args.self.now)
          c.loop-subject.subject c.loop-subject.rest.now c.run_len.result,
    )

pub add-requires-clause-run : goal.add-requires-clause-run
add-requires-clause-run c =
    grind (
      arith,
      next_run c.args.self.now.rule.k c.args.self.now.rings.now.nodes (alerts_of c.args.self.now)
          c.loop-subject.subject c.loop-subject.rest.now c.run_len.result,
    )

pub add-requires-clause-room : goal.add-requires-clause-room
add-requires-clause-room c =
    grind (arith, few_edges)

pub loop-subject-preserved : goal.loop-subject-preserved
loop-subject-preserved c =
    grind (
      arith,
      next_run c.args.self.now.rule.k c.args.self.now.rings.now.nodes (alerts_of c.args.self.now)
          c.loop-subject.subject c.loop-subject.rest.now c.run_len.result,
    )

pub returns : goal.returns
returns c =
    grind (arith, are_all c.args.self.now c.loop-subject.candidates c.loop-subject.subject c.some_ends_stable.result)
