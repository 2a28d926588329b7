-- How a `PieceResult` is kept: its totals are the sums over the piece's trials.
use Rattle.std.specs.Prelude.{◌≡◌, ◌*◌, IsTrue}
use Rattle.cut_plan.specs.declared.limits.TheConstants.{MOST_NODES}
use Rattle.cut_outcome.specs.declared.piece.PieceResult.TheInside.{Inside}
use Rattle.cut_outcome.specs.Computed.{Computed}
use Rattle.cut_outcome.specs.Sum.{is_piece, sum_of, trials_in, IsAtMost}

abbrev pub computed_of : Inside → Computed
computed_of r = record { plan = r.plan; piece = r.piece }

pub record IsSummed (r : Inside) : Type 0 where
  pub piece : IsTrue (is_piece r.plan r.piece)
  pub few : IsAtMost (MOST_NODES * r.piece.count) r.totals
  pub totals : r.totals ≡ sum_of r.plan (trials_in r.piece)
