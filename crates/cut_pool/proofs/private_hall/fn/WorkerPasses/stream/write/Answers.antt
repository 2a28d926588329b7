use Rattle.std.proofs.Common.{◌∙◌, ◌+◌, ◌≤◌, length, arith}
use Rattle.std.proofs.lemmas.Result.{on_ok_weaker}
use Rattle.std.specs.Prelude.{OnOk}
use Rattle.cut_plan.specs.Cells.{cells_of}
use Rattle.cut_wires.specs.Sending.{sending}
use Rattle.cut_pool.proofs.Tables.{emits_at, kept, made_all}
use Rattle.cut_pool.proofs.private_hall.fn.WorkerPasses.stream.write.Goals as goal

pub returns : goal.returns
returns g c =
    let log = g.W.Wire.log in
    let opened = c.captures.opened.now in
    let writer = c.send_rows-outcome.new.writer in
    let sent = c.send_rows-outcome.ensures in
    let all : OnOk c.emit_result_of.result
    (c.captures.writer.now.made + length (cells_of opened.plan) ≤ c.send_rows-outcome.new.rows.pass.now.made) =
    rw c.emit_result_of.ensures
    (made_all opened.plan opened.base _ _ _ _ c.send_rows-outcome.result c.sent.result _ _ sent) in record {
      emits = rw (c.emit_result_of.ensures, c.sent.ensures)
          (emits_at log opened.plan opened.base _ _ _ _ c.send_rows-outcome.result c.captures.wire.now writer.wire.now
          _ _ writer.wire.ghost_name writer.sent (sending log c.new-counting.result) c.new-counting.ensures sent
          assumption);
      own = (kept opened.plan opened.base _ _ _ _ c.send_rows-outcome.result _ _ sent).1 ∙ c.requires.own;
      made = on_ok_weaker c.emit_result_of.result (λ made. omega (arith, made)) all;
    }
