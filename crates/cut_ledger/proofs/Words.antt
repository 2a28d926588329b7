-- The words of definitions that the proofs here cite, passed on from one place, and the line of a whole cell.
pub use Rattle.cut_faults.specs.declared.code.FaultCode.{FaultCode}
pub use Rattle.cut_ledger.specs.Contents.{Contents, all_trials, cell_done, cell_sum, further_trials, has}
pub use Rattle.cut_ledger.specs.Contents.{held_where, is_complete, is_in, is_in_base, over_base, overlaps}
pub use Rattle.cut_ledger.specs.Contents.{slip_sum, slips_of_cell, sum_where, with_piece}
pub use Rattle.cut_ledger.specs.FaultCode.{code_of}
pub use Rattle.cut_ledger.specs.Gaps.{gaps_of, part_of, parts_of, piece_at, pieces_of}
pub use Rattle.cut_ledger.specs.inside.HeldTrials.{AreKept, AreOver, IsAdded, contents_in}
pub use Rattle.cut_ledger.specs.Machine.{StudyState, accepted_unless, after, available, drawn_piece, failed}
pub use Rattle.cut_ledger.specs.Machine.{is_finished, opened, refused_code, slip_of, slips_found}
pub use Rattle.cut_ledger.specs.Machine.{some_slip, start, taken, unless_refused}
pub use Rattle.cut_ledger.specs.inside.Reached.{IsDoubtful, IsFounded, IsReached}
pub use Rattle.cut_ledger.specs.Refusals.{CanTake}
pub use Rattle.cut_ledger.specs.inside.RunInside.{state_of}
pub use Rattle.cut_ledger.specs.Slips.{AreGood, AreGoodUpTo, IsFirstBad, IsGood}
pub use Rattle.cut_ledger.specs.World.{AreTrue, HasTrueResult, IsRight, IsTrueSlip, SayAlike, World, accepted_after}
pub use Rattle.cut_ledger.specs.World.{begun, bytes_after, pieces_of_slips, run, step, times_in}
pub use Rattle.cut_ledger.specs.declared.event.Event.{Event}
pub use Rattle.cut_ledger.specs.declared.slip.Slip.{Slip}
pub use Rattle.cut_ledger.specs.lines.Lines.{header, line_with}
pub use Rattle.cut_plan.specs.Cells.{cells_of, trial_count}
pub use Rattle.cut_plan.specs.Plan.{IsPlan}
pub use Rattle.cut_plan.specs.Values.{Values}
pub use Rattle.cut_outcome.specs.Computed.{Computed}
pub use Rattle.cut_outcome.specs.Laws.{PiecesHavePossibleTotals}
pub use Rattle.cut_outcome.specs.Outcome.{one_if}
pub use Rattle.cut_outcome.specs.Possible.{ArePossible}
pub use Rattle.cut_outcome.specs.Sum.{IsAtMost, each_number, is_piece, plus, sum_of, trials_in, trials_of_cell}
pub use Rattle.cut_outcome.specs.declared.piece.Piece.{Piece}
pub use Rattle.cut_outcome.specs.declared.totals.Totals.{Totals}
pub use Rattle.std.specs.Int.{div_ceil}
pub use Rattle.std.specs.List.{AllByRecursion, count_by, flat_map, list_all, list_any, prefix_len}
pub use Rattle.std.specs.List.{range_with_len, sum_by, take_while}
pub use Rattle.std.specs.List.Sorted.{IsNonDecreasingBy, IsPartitionPoint}
use Rattle.std.specs.Prelude.{ℕ, List}
pub use Rattle.std.specs.Prelude.{All, IsTrue, option_map, refl, slice_index_or, ◌↔◌}
pub use Rattle.std.specs.Result.{OnErr, OnOk}

-- the line of a cell with the sums over all of its trials, as the table of a plan has it
abbrev pub line_of : Values → ℕ → List ℕ
line_of v i = line_with v i (sum_of v (trials_of_cell v i))
