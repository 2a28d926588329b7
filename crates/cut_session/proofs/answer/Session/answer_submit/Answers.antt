use Rattle.std.proofs.Common.{sym, subst}
use Rattle.cut_plan.specs.Values.{Values}
use Rattle.cut_slots.specs.Trust.{MayBegin}
use Rattle.cut_wires.specs.Sending.{sending}
use Rattle.cut_session.proofs.Tables.{plan_answered, plan_refused}
use Rattle.cut_session.proofs.answer.Session.answer_submit.Goals as goal

pub send_table-requires : goal.send_table-requires
send_table-requires g c =
    subst (λ (v : Values). MayBegin c.args.self.now.hall.now.is_trusted v c.in-Ok-submit.opened.base)
    (sym c.in-Ok-submit.ensures.plan) c.in-Ok-submit.ensures.base

pub returns-in-Ok-submit-clause-replies : goal.returns-in-Ok-submit-clause-replies
returns-in-Ok-submit-clause-replies g c =
    let log = g.W.Wire.log in
    plan_answered c.args.self.now.hall.now.is_trusted c.args.text.now c.in-Ok.plan c.in-Ok-submit.opened.plan
    c.send_table.result (sending log c.args.writer.now) (sending log c.send_table.new.writer) c.in-Ok.ensures.ok
    c.in-Ok-submit.ensures.plan c.send_table.ensures.replies

pub returns-in-Err-clause-replies : goal.returns-in-Err-clause-replies
returns-in-Err-clause-replies g c =
    let log = g.W.Wire.log in
    plan_refused c.args.self.now.hall.now.is_trusted c.args.text.now c.in-Ok.plan c.in-Err.fault c.code-in-Err.result
    c.send_fault-in-Err.result (sending log c.args.writer.now) (sending log c.send_fault-in-Err.new.writer)
    c.in-Ok.ensures.ok
    c.code-in-Err.ensures c.send_fault-in-Err.ensures
