-- The words of definitions that most proofs here cite, passed on from one place. Declares nothing.
pub use Rattle.std.specs.Prelude.{All, Contains, IfSome, IsSome, IsTrue, count_by, find, if◌then◌else◌, slice_get, ◌&&◌}
pub use Rattle.std.specs.Prelude.{◌==◌, ◌||◌}
pub use Rattle.std.specs.List.{IsDistinct, flat_map, list_any, range_with_len}
pub use Rattle.cut_plan.specs.declared.cell.Cell.{Cell}
pub use Rattle.cut_plan.specs.Values.{Values}
pub use Rattle.cut_plan.specs.Cells.{cells_of, largest, trial_count}
pub use Rattle.cut_plan.specs.Plan.{IsPlan}
pub use Rattle.cut_plan.specs.Targets.{deaf_of}
pub use Rattle.cut_rings.specs.declared.edge.Edge.{Edge}
pub use Rattle.cut_rings.specs.Edges.{EdgeSet, edge_number, first_of, is_edge, is_edge_of, set_of}
pub use Rattle.cut_rings.specs.Layout.{Layout, observer_of, subject_of}
pub use Rattle.cut_draws.specs.declared.delivery.Delivery.{Delivery}
pub use Rattle.cut_draws.specs.Source.{Source, key_at, source_of}
pub use Rattle.cut_draws.specs.ProcessOrder.{compare_processes, process_place, process_rank}
pub use Rattle.cut_draws.specs.DeliveryOrder.{IsDeliveryOrder, all_deliveries, compare_deliveries, copies_of}
pub use Rattle.cut_draws.specs.DeliveryOrder.{delivery_place, delivery_rank, early}
pub use Rattle.cut_alerts.specs.Assignment.{Assignment, has_crashed, is_target, role_at, same_role}
pub use Rattle.cut_alerts.specs.Alerted.{alert_list, alerts_about, all_edges, edges_of, is_alerted, speaks}
pub use Rattle.cut_alerts.specs.Drawn.{drawn, ranked_role}
pub use Rattle.cut_detector.specs.Rule.{Rule, rule_of}
pub use Rattle.cut_detector.specs.Counts.{full_count, is_gained, reports_of, ring_count}
unfoldable pub use Rattle.cut_detector.specs.Counts.{is_full, is_reported, is_settled, is_stable, stable_members}
pub use Rattle.cut_detector.specs.Proposal.{proposal_of}
pub use Rattle.cut_detector.specs.State.{HasDelivered, DetectorState}
pub use Rattle.cut_detector.specs.Laws.{AGapWiderAtBothEndsProposesLater, AWiderGapProposesLater, Grows, IsOfLeastPlace}
pub use Rattle.cut_detector.specs.Laws.{IsSettled, ProposesAtLeastPlace, ProposesBefore, ReportsTargetsAlone}
pub use Rattle.cut_detector.specs.Laws.{StableAreTargets, TargetsAloneLeaveNoneUnstable, proposal_after}
pub use Rattle.cut_detector.specs.declared.proposal.Proposal.{Proposal}
pub use Rattle.cut_outcome.specs.declared.piece.Piece.{Piece}
pub use Rattle.cut_outcome.specs.declared.totals.Totals.{Totals}
pub use Rattle.cut_outcome.specs.declared.verdict.Verdict.{Verdict}
pub use Rattle.cut_outcome.specs.FastRound.{HasCounted, cast_of, members_of, most_votes, quorum_of, same_members}
pub use Rattle.cut_outcome.specs.FastRound.{votes_of}
pub use Rattle.cut_outcome.specs.Verdicts.{AreAscending, has_other, has_process, is_missed, judged, lacks_target}
pub use Rattle.cut_outcome.specs.Verdicts.{processes_of, receivers_of, targets_of}
pub use Rattle.cut_outcome.specs.Outcome.{cell_at, cell_outcome, deliveries_at, no_cell, one_if, place_for}
pub use Rattle.cut_outcome.specs.Outcome.{place_of, IsPlaced, proposals_of, receiver_proposal, rings_of}
pub use Rattle.cut_outcome.specs.Outcome.{settled_of, totals_of}
unfoldable pub use Rattle.cut_outcome.specs.Outcome.{outcome}
pub use Rattle.cut_outcome.specs.Sum.{IsAtMost, each_number, is_piece, plus, sum_of, trials_in, without_settled}
pub use Rattle.cut_outcome.specs.Possible.{ArePossible, IsSettledBy}
pub use Rattle.cut_outcome.specs.Laws.{AreByVotes, AreMoreCautious, IsMoreCautious, LiesWithin, OnlyCrashes, with_marks}
