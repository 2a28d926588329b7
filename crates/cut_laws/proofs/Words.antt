-- The words of definitions that most proofs here cite, passed on from one place. Declares nothing.
pub use Rattle.std.specs.Prelude.{All, Contains, IfSome, IsTrue, MatchOption, count_by, find, if◌then◌else◌, ◌&&◌}
pub use Rattle.std.specs.Prelude.{◌==◌, ◌||◌, ◌↔◌}
pub use Rattle.std.specs.List.{flat_map, list_any, range_with_len, sum_by}
pub use Rattle.std.specs.List.Sorted.{IsStrictlyIncreasing}
pub use Rattle.cut_plan.specs.declared.cell.Cell.{Cell}
pub use Rattle.cut_plan.specs.Values.{Values}
pub use Rattle.cut_plan.specs.Cells.{cells_at, cells_of, cells_of_lists, cells_under_h, cells_under_k, trial_count}
pub use Rattle.cut_plan.specs.Combinations.{AreCombinations}
pub use Rattle.cut_plan.specs.Plan.{IsPlan}
pub use Rattle.cut_plan.specs.Targets.{deaf_of}
pub use Rattle.cut_rings.specs.declared.edge.Edge.{Edge}
pub use Rattle.cut_rings.specs.Edges.{EdgeSet, edge_number, is_edge, set_of}
pub use Rattle.cut_rings.specs.Laws.{EdgeNumbersNameEdges}
pub use Rattle.cut_rings.specs.Layout.{Layout, observer_of, position_of, positions_on}
pub use Rattle.cut_draws.specs.declared.delivery.Delivery.{Delivery}
pub use Rattle.cut_draws.specs.Source.{Source, key_at, source_of}
pub use Rattle.cut_draws.specs.ProcessOrder.{process_rank}
pub use Rattle.cut_draws.specs.DeliveryOrder.{all_deliveries, compare_deliveries, delivery_place, delivery_rank, early}
pub use Rattle.cut_draws.specs.Laws.{AllAreHeardOfInTheEnd, DeliveriesAreCopiesOfEdges, DeliveriesAreOfGivenEdges}
pub use Rattle.cut_draws.specs.Laws.{HeardOfStays, NoneIsHeardOfAtFirst}
pub use Rattle.cut_alerts.specs.Assignment.{Assignment, has_crashed, is_target, role_at}
pub use Rattle.cut_alerts.specs.Alerted.{alert_list, alerts_about, all_edges, edges_of, is_alerted}
pub use Rattle.cut_alerts.specs.Drawn.{drawn, ranked_role}
pub use Rattle.cut_detector.specs.Rule.{Rule, rule_of}
pub use Rattle.cut_detector.specs.Counts.{reports_of}
unfoldable pub use Rattle.cut_detector.specs.Counts.{is_settled, is_some_stable, is_stable, is_unstable, stable_members}
pub use Rattle.cut_detector.specs.Proposal.{proposal_of}
pub use Rattle.cut_detector.specs.Laws.{IsOfLeastPlace, IsSettled, MoreEdgesKeepStable}
pub use Rattle.cut_detector.specs.Laws.{NoneIsStableUnheard, NoneIsUnstable, ProposesAtFirstStable}
pub use Rattle.cut_detector.specs.Laws.{ProposesAtLeastPlace, ProposesBefore, StableByReportsAlone}
pub use Rattle.cut_detector.specs.declared.proposal.Proposal.{Proposal}
pub use Rattle.cut_outcome.specs.declared.totals.Totals.{Totals}
pub use Rattle.cut_outcome.specs.FastRound.{cast_of, most_votes, quorum_of, same_members, votes_of}
pub use Rattle.cut_outcome.specs.Verdicts.{has_other, has_process, is_missed, judged, lacks_target, processes_of}
pub use Rattle.cut_outcome.specs.Verdicts.{receivers_of, targets_of}
pub use Rattle.cut_outcome.specs.Outcome.{cell_at, cell_outcome, no_cell, one_if, place_of}
pub use Rattle.cut_outcome.specs.Outcome.{receiver_proposal, rings_of, settled_of, totals_of}
unfoldable pub use Rattle.cut_outcome.specs.Outcome.{outcome}
pub use Rattle.cut_outcome.specs.Sum.{sum_of}
pub use Rattle.cut_outcome.specs.Laws.{AreMoreCautious, OnlyCrashes, ReceiversAreTheRest, with_marks}
pub use Rattle.cut_laws.specs.Trials.{IsAllConflicts, alerts_at, ends_stable, proposed_at, roles_at, rule_at}
