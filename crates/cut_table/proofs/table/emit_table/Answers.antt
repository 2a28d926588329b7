use Rattle.cut_wires.specs.Sending.{sending}
use Rattle.cut_table.proofs.Emissions.{emits_at}
use Rattle.cut_table.proofs.table.emit_table.Goals as goal

pub returns : goal.returns
returns g c =
    let log = g.W.Wire.log in
    rw (c.table_result_of.ensures, c.sent.ensures)
    (emits_at log c.args.ledger.now.contents c.send_rows-result.new.rows.ledger.now.contents c.send_rows-result.result
    c.args.wire.now c.send_rows-result.new.writer.wire.now _ _ c.send_rows-result.new.writer.wire.ghost_name
    c.send_rows-result.new.writer.sent (sending log c.new-writer.result) c.new-writer.ensures c.send_rows-result.ensures
    assumption)
