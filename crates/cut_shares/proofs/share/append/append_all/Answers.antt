use Rattle.std.specs.Bool.{⊤}
use Rattle.std.proofs.lemmas.Result.{err_from_is_err_and}
use Rattle.cut_journal.proofs.Adding.{adding_stops, all_added, none_added}
use Rattle.cut_shares.proofs.Appends.{slips_more, slips_split}
use Rattle.cut_shares.proofs.share.append.append_all.Goals as goal

pub append-requires : goal.append-requires
append-requires g c =
    rw (c.loop-task.invariant.added.plan, c.task-item.is)
    (c.requires c.loop-task.task-index c.task-item.result c.loop-task-test.true)

pub loop-task-init : goal.loop-task-init
loop-task-init g c = record { added = none_added g.D.Disk.log c.args.journal.now c.journals_stay_readable.ensures.sound }

pub returns-in_err-append : goal.returns-in_err-append
returns-in_err-append g c =
    let p = err_from_is_err_and c.from_residual.result c.from_residual.ensures.1 in
    let mid = c.loop-task.journal in
    let added = c.loop-task.invariant.added in
    rw (p.1, p.2)
    (adding_stops ⊤ ⊤ g.D.Disk.log c.in_err-append.field-0.0 _ _ _ _ c.args.journal.now mid c.append.new.journal
    (slips_split c.args.journal.now.plan mid.plan added.plan c.args.tasks.now c.loop-task.task-index c.task-item.result
    c.loop-task-test.true c.task-item.is) added c.in_err-append.ensures)

pub loop-task-preserved : goal.loop-task-preserved
loop-task-preserved g c =
    let mid = c.loop-task.journal in
    let added = c.loop-task.invariant.added in
    record {
      added = all_added {T = ⊤} g.D.Disk.log tt _ _ _ c.args.journal.now mid c.append.new.journal
          (slips_more c.args.journal.now.plan mid.plan added.plan c.args.tasks.now c.loop-task.task-index
          c.task-item.result c.loop-task-test.true c.task-item.is) added c.in_ok-append.ensures;
    }
