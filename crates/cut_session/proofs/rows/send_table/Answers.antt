use Rattle.cut_wires.specs.Sending.{sending}
use Rattle.cut_session.proofs.Tables.{kept, table_sent}
use Rattle.cut_session.proofs.rows.send_table.Goals as goal

pub returns-clause-replies : goal.returns-clause-replies
returns-clause-replies g c =
    let log = g.W.Wire.log in
    let rows = c.args.rows.now in
    let after = c.send_rows-sent.new.rows in
    table_sent rows.hall.now.is_trusted rows.opened.now.plan rows.opened.now.base rows.pass.ghost_name rows.pass.now
    after.pass.ghost_name after.pass.now (sending log c.args.writer.now) (sending log c.send_rows-sent.new.writer)
    c.requires
    c.plans_are_accepted.ensures.accepted.few_cells c.send_rows-sent.result c.end_table.result
    (sending log c.end_table.new.writer)
    c.send_rows-sent.ensures c.end_table.ensures

pub returns-clause-stays : goal.returns-clause-stays
returns-clause-stays g c =
    let log = g.W.Wire.log in
    let rows = c.args.rows.now in
    let after = c.send_rows-sent.new.rows in
    let is = kept rows.hall.now.is_trusted rows.opened.now.plan rows.opened.now.base rows.pass.ghost_name rows.pass.now
    after.pass.ghost_name after.pass.now (sending log c.args.writer.now) (sending log c.send_rows-sent.new.writer)
    c.send_rows-sent.result c.send_rows-sent.ensures in
    (is.same, is.own, is.view)
