use Rattle.std.proofs.Common.{arith}
use Rattle.cut_outcome.proofs.Sum.{first_possible}
use Rattle.cut_outcome.proofs.piece.PieceResult.totals.Goals as goal

pub returns-clause-value : goal.returns-clause-value
returns-clause-value c = rw (← c.self.view_is) c.self.invariant.totals

pub returns-clause-few : goal.returns-clause-few
returns-clause-few c = rw (← c.self.view_is) c.self.invariant.few

pub returns-clause-possible : goal.returns-clause-possible
returns-clause-possible c =
    let r = c.self.inside in
    rw (← c.self.view_is, c.self.invariant.totals)
    (first_possible r.plan r.piece r.piece.count c.self.invariant.piece (omega arith))
