use Rattle.std.proofs.Common.{◌≡◌, ◌-◌, filter}
use Rattle.std.specs.List.{range_with_len}
use Rattle.cut_rings.specs.Edges.{set_of}
use Rattle.cut_detector.specs.Rule.{rule_in}
use Rattle.cut_detector.specs.Counts.{is_reported}
use Rattle.cut_arrivals.specs.candidates.inside.Runs.{runs_from}
use Rattle.cut_arrivals.proofs.candidates.runs.reported_subjects.Given as goal

abbrev pub invariant-loop-subject : goal.invariant-loop-subject
invariant-loop-subject l = record {
  rest : l.rest ≡ runs_from l.rule.k (set_of l.edges) l.subject (l.nodes - l.subject);
  subjects : l.subjects.items ≡ filter (λ s. is_reported (rule_in l.rule) (set_of l.edges) s)
      (range_with_len 0 l.subject);
}
