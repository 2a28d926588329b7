use Rattle.std.proofs.Common.{◌≡◌, ◌≤◌, ◌+◌, ◌-◌, length}
use Rattle.cut_arrivals.specs.candidates.inside.Runs.{runs_from}
use Rattle.cut_arrivals.specs.candidates.inside.Reported.{alerts_of, HasListed}
use Rattle.cut_arrivals.proofs.candidates.reported.Reported.candidates.Given as goal

abbrev pub invariant-loop-subject : goal.invariant-loop-subject
invariant-loop-subject l = record {
  rest : l.rest ≡ runs_from l.self.rule.k (alerts_of l.self) l.subject (l.self.rings.now.nodes - l.subject);
  listed : HasListed l.self l.subject l.candidates.blocks.items l.candidates.candidates.items;
  room : length l.candidates.blocks.items + length l.rest ≤ length l.self.edges.now;
}
