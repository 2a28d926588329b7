use Rattle.std.proofs.Common.{◌≡◌, ◌≤◌, ◌+◌, ◌*◌, length}
use Rattle.cut_wires.specs.Rows.{rows_to}
use Rattle.cut_wires.specs.Sending.{sending, sent_on}
use Rattle.cut_wires.proofs.rows.send_rows.Given as goal

-- the header and the rows so far were given and sent
abbrev pub invariant-loop-place : goal.invariant-loop-place
invariant-loop-place g l = record {
  same : g.R.RowSource.table l.rows ≡ g.R.RowSource.table l.fn.rows;
  short : length (rows_to g.F.Encoding.framed (g.R.RowSource.table l.fn.rows) l.place)
      ≤ (l.place + 1) * ((g.R.RowSource.table l.fn.rows).longest + 5);
  given : g.R.RowSource.HasGiven l.fn.rows l.place l.rows;
  sent : sending g.W.Wire.log l.writer ≡ sent_on (sending g.W.Wire.log l.fn.writer)
      (rows_to g.F.Encoding.framed (g.R.RowSource.table l.fn.rows) l.place);
}
