-- The words of definitions that most proofs here cite, passed on from one place. Declares nothing.
pub use Rattle.std.specs.Prelude.{All, IsTrue, if◌then◌else◌}
pub use Rattle.std.specs.List.{count_by, flat_map, range_with_len, sum_by}
pub use Rattle.std.specs.List.Sorted.{IsNonDecreasingBy, IsPermutation}
pub use Rattle.std.specs.Int.{div_ceil}
pub use Rattle.cut_sets.specs.ranges.Spans.{spans}
pub use Rattle.cut_plan.specs.Cells.{cells_of, trial_count}
pub use Rattle.cut_plan.specs.Plan.{IsPlan}
pub use Rattle.cut_plan.specs.Values.{Values}
pub use Rattle.cut_outcome.specs.Computed.{Computed}
pub use Rattle.cut_outcome.specs.Outcome.{cell_at, one_if, outcome}
pub use Rattle.cut_outcome.specs.Possible.{ArePossible}
pub use Rattle.cut_outcome.specs.Sum.{each_number, is_piece, plus, sum_of, trials_in, trials_of_cell}
pub use Rattle.cut_outcome.specs.declared.piece.Piece.{Piece}
pub use Rattle.cut_outcome.specs.declared.totals.Totals.{Totals}
pub use Rattle.cut_disks.specs.Log.{DiskLog}
pub use Rattle.cut_ledger.specs.Contents.{all_trials, has, is_in, is_in_base, over_base, slip_sum, slips_of_cell}
pub use Rattle.cut_ledger.specs.Gaps.{gaps_of, piece_at}
pub use Rattle.cut_ledger.specs.Slips.{AreGood, IsGood}
pub use Rattle.cut_ledger.specs.World.{AreTrue, IsTrueSlip, pieces_of_slips, times_in}
pub use Rattle.cut_ledger.specs.declared.slip.Slip.{Slip}
pub use Rattle.cut_journal.specs.Adding.{Adds, EndsAdding}
pub use Rattle.cut_journal.specs.Journal.{JournalValue}
pub use Rattle.cut_journal.specs.declared.store_fault.StoreFault.{StoreFault}
unfoldable pub use Rattle.cut_shares.specs.join.Joined.{joined}
pub use Rattle.cut_shares.specs.join.Joined.{runs_of, slip_of_run, slips_of_run}
pub use Rattle.cut_shares.specs.join.Laws.{AreApart}
pub use Rattle.cut_shares.specs.join.inside.Merging.{AreAscending, IsSmall, adjoins, with_next, with_slip}
pub use Rattle.cut_shares.specs.share.Blocks.{begins_block, block_of}
pub use Rattle.cut_shares.specs.share.Running.{AreOfShare, AreWhole, CanRun, EndsShare, is_lacking}
pub use Rattle.cut_shares.specs.share.Share.{IsShareSlip, has_block, is_in_share, trials_of_share}
pub use Rattle.cut_shares.specs.share.inside.Batches.{AreParted, AreWithin, EndsPieces, IsUpTo, IsWhole}
pub use Rattle.cut_shares.specs.share.inside.Pieces.{IsSharePiece, own_times, own_trials, trials_in_all}
pub use Rattle.cut_shares.specs.share.inside.Running.{IsFaultOfOpening, slip_at, slips_at}
pub use Rattle.cut_shares.specs.share.inside.Tasks.{IsRun, done_of, has_result, lost_of, pieces_of}
pub use Rattle.cut_shares.specs.declared.share.piece_task.PieceTask.{PieceTask}
pub use Rattle.cut_shares.specs.declared.share.share.Share.{Share}
