use Rattle.std.proofs.Common.{arith}
use Rattle.cut_arrivals.proofs.RunLemmas.{edges_of_run}
use Rattle.cut_arrivals.proofs.CauseLemmas.{some_gain}
use Rattle.cut_arrivals.proofs.candidates.reported.Reported.candidate.Goals as goal

pub key_places_among-requires-clause-edges : goal.key_places_among-requires-clause-edges
key_places_among-requires-clause-edges c =
    grind (arith, edges_of_run)

pub returns-clause-candidate : goal.returns-clause-candidate
returns-clause-candidate c =
    grind (
      arith,
      some_gain c.args.self.now c.key_places_among.new.blocks.items c.args.subject
          c.in_ok-causes.causes.items,
    )
