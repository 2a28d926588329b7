-- The words of definitions, and the lemmas, that most proofs here cite, passed on from one place. Declares nothing.
pub use Rattle.std.specs.Prelude.{All, Contains, count_by, filter, find}
pub use Rattle.std.specs.List.{IsDistinct, list_any, range_with_len}
pub use Rattle.std.specs.List.Sorted.{IsPermutation, IsStrictlyIncreasing}
pub use Rattle.std.specs.Int.{bit_at}
pub use Rattle.std.proofs.Math.Bool.{and-true, or-false}
pub use Rattle.std.proofs.lemmas.Bool.{and_from, and_left, and_parts, and_right, both_ways, cases_eq, cases_lt, eq-eqb}
pub use Rattle.std.proofs.lemmas.Bool.{eqb-true, false_from_ne_true, le-leb, leb-true, lt-leb, lt-ltb, ltb-true, ne_eqb}
pub use Rattle.std.proofs.lemmas.Bool.{or_right}
pub use Rattle.std.proofs.lemmas.Bool.Decides.{nat_tests}
pub use Rattle.std.proofs.lemmas.Grind.{get_or-set_at}
pub use Rattle.std.proofs.lemmas.List.{get_or_past, length-set, take-append-le, take_all}
pub use Rattle.std.proofs.lemmas.List.Folds.{list_any-append}
pub use Rattle.std.proofs.lemmas.List.Sums.{sum_by-le-sum_by}
pub use Rattle.cut_lists.proofs.Counts.{not_above, some_and_none_agree}
pub use Rattle.cut_lists.proofs.Listed.{IsDistinct-empty}
pub use Rattle.cut_lists.proofs.Ones.{count_by-ones}
pub use Rattle.cut_lists.proofs.Ranges.{AgreeOn, count_by_agree, filter_agree_on, list_any_none_passing}
pub use Rattle.cut_lists.proofs.Ranges.{list_any_passing}
pub use Rattle.cut_lists.proofs.Ranks.{count_by_none}
pub use Rattle.cut_rings.specs.declared.edge.Edge.{Edge}
pub use Rattle.cut_rings.specs.Edges.{EdgeSet, first_of, is_edge, is_edge_of, set_of}
pub use Rattle.cut_rings.specs.Layout.{IsLayout, Layout, Observes, observer_of, position_of, positions_on}
pub use Rattle.cut_detector.specs.declared.detector.Detector.TheInside.{Inside}
pub use Rattle.cut_detector.specs.declared.masks.Masks.{Masks}
pub use Rattle.cut_detector.specs.declared.proposal.Proposal.{Proposal}
pub use Rattle.cut_detector.specs.declared.reports.Reports.{Reports}
pub use Rattle.cut_detector.specs.declared.tally.Tally.{Tally}
pub use Rattle.cut_detector.specs.Rule.{Rule, rule_in, rule_of}
pub use Rattle.cut_detector.specs.Counts.{full_count, is_gained, reports_of, ring_count}
unfoldable pub use Rattle.cut_detector.specs.Counts.{
  is_full,
  is_reported,
  is_settled,
  is_some_stable,
  is_some_unstable,
  is_stable,
  is_unstable,
  stable_members,
}
pub use Rattle.cut_detector.specs.Proposal.{proposal_of, settled_proposal}
pub use Rattle.cut_detector.specs.Masks.{edges_in}
pub use Rattle.cut_detector.specs.inside.Masks.{AddsEdge, with_edge}
pub use Rattle.cut_detector.specs.inside.Tally.{IsTouched, marked_in, processes_with, rings_full, stable_in}
pub use Rattle.cut_detector.specs.inside.Tally.{unstable_in}
pub use Rattle.cut_detector.specs.inside.Gains.{HoldsFull, is_near, reported_in, rule_of_gains}
pub use Rattle.cut_detector.specs.State.{HasDelivered, HoldsFirst, DetectorState, TakesEdge, fresh}
pub use Rattle.cut_detector.specs.Laws.{Grows, IsMarked, IsOfLeastPlace, IsSettled, ProposesBefore, ReportsTargetsAlone}
pub use Rattle.cut_detector.specs.Laws.{delayed, members_after, proposal_after}
pub use Rattle.cut_detector.specs.inside.Inside.{IsDetector, layout_of, reported_of, rule_of_inside, state_of}
