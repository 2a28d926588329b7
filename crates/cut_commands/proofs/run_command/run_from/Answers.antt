use Rattle.std.proofs.Common.{◌≡◌, Bool, Err, Ok, Result, sym, subst}
use Rattle.std.specs.Prelude.{is_some, option_map}
use Rattle.cut_plan.specs.Values.{Values}
use Rattle.cut_wires.specs.Log.{WireLog}
use Rattle.cut_pool.specs.Leaving.{LeavesDisk}
use Rattle.cut_pool.specs.Running.{HasEnded, Takes, slips_of}
use Rattle.cut_pool.specs.declared.run_fault.RunFault.{RunFault}
use Rattle.cut_pool.specs.declared.study_run.Done.{Done}
use Rattle.cut_commands.specs.Run.{source_place}
use Rattle.cut_commands.specs.inside.Study.{RunsPlan}
use Rattle.cut_commands.specs.declared.fault.CliFault.{CliFault}
use Rattle.cut_commands.proofs.StudyLemmas.{keeps_study, runs_all, runs_none, runs_on, runs_some, runs_unread}
use Rattle.cut_commands.proofs.run_command.run_from.Goals as goal

pub returns-in-Err-clause-runs : goal.returns-in-Err-clause-runs
returns-in-Err-clause-runs g c =
    runs_unread (source_place g.F.Files.log c.args.study.source) c.in-Err.fault
    (option_map g.D.Disk.log c.args.study.disk) (g.W.Wire.log c.args.wire.now) (g.W.Wire.log c.read_plan.new.wire)
    c.in-Err.ensures

pub returns-in-Err-open_checkpoint-clause-runs : goal.returns-in-Err-open_checkpoint-clause-runs
returns-in-Err-open_checkpoint-clause-runs g c =
    let mid : WireLog = g.W.Wire.log c.read_plan.new.wire in
    runs_on c.accepted_texts_give_plans.ensures c.true_slips_give_the_table.ensures.good
    c.true_slips_give_the_table.ensures.table c.true_slips_give_the_table.ensures.none
    (source_place g.F.Files.log c.args.study.source) (option_map g.D.Disk.log c.args.study.disk) _ c.in-Ok.plan
    (g.W.Wire.log c.args.wire.now) mid mid _ c.in-Ok.ensures
    (runs_none (option_map g.D.Disk.log c.args.study.disk) _ c.in-Ok.plan _ mid c.in-Err-open_checkpoint.ensures.err)

pub returns-in-Ok-ended-clause-runs : goal.returns-in-Ok-ended-clause-runs
returns-in-Ok-ended-clause-runs g c =
    let log = g.D.Disk.log in
    let v : Values = c.in-Ok.plan in
    let kept = c.in-Ok-open_checkpoint.kept in
    let disk = c.args.study.disk in
    let back = c.run-ended.result.disk in
    let size = c.args.study.work.piece_size in
    let mid = g.W.Wire.log c.read_plan.new.wire in
    let new = g.W.Wire.log c.run-ended.new.wire in
    let done : Done = c.in-Ok-ended._done in
    let is : c.run-ended.result.ended ≡ Ok done = c.in-Ok-ended.is in
    let keeps = keeps_study log v (Ok done) disk kept back c.in-Ok-open_checkpoint.ensures.opened
    (subst (λ (e : Result Done RunFault). LeavesDisk log v kept e back) is c.run-ended.ensures.left) in
    runs_on c.accepted_texts_give_plans.ensures c.true_slips_give_the_table.ensures.good
    c.true_slips_give_the_table.ensures.table c.true_slips_give_the_table.ensures.none
    (source_place g.F.Files.log c.args.study.source) (option_map log disk) (option_map log back) v
    (g.W.Wire.log c.args.wire.now) mid new (Ok tt) c.in-Ok.ensures
    (runs_all (option_map log disk) (option_map log back) v (slips_of kept) c.in-Ok-open_checkpoint.ensures.begins size done
    mid new keeps
    (subst (λ (b : Bool). HasEnded v (slips_of kept) b size (Ok done)) c.in-Ok-open_checkpoint.ensures.some
    (subst (λ (e : Result Done RunFault). HasEnded v (slips_of kept) (is_some kept) size e) is c.run-ended.ensures.ended))
    (subst (λ (e : Result Done RunFault). Takes v (slips_of kept) e mid new) is c.run-ended.ensures.takes))

pub returns-clause-runs : goal.returns-clause-runs
returns-clause-runs g c =
    let log = g.D.Disk.log in
    let v : Values = c.in-Ok.plan in
    let kept = c.in-Ok-open_checkpoint.kept in
    let disk = c.args.study.disk in
    let back = c.run-ended.result.disk in
    let size = c.args.study.work.piece_size in
    let mid = g.W.Wire.log c.read_plan.new.wire in
    let new = g.W.Wire.log c.run-ended.new.wire in
    let fault : RunFault = c.in-Err-ended.fault in
    let is : c.run-ended.result.ended ≡ Err fault = c.in-Err-ended.is in
    let keeps = keeps_study log v (Err fault) disk kept back c.in-Ok-open_checkpoint.ensures.opened
    (subst (λ (e : Result Done RunFault). LeavesDisk log v kept e back) is c.run-ended.ensures.left) in
    runs_on c.accepted_texts_give_plans.ensures c.true_slips_give_the_table.ensures.good
    c.true_slips_give_the_table.ensures.table c.true_slips_give_the_table.ensures.none
    (source_place g.F.Files.log c.args.study.source) (option_map log disk) (option_map log back) v
    (g.W.Wire.log c.args.wire.now) mid new (Err c.from.result) c.in-Ok.ensures
    (subst (λ (e : CliFault). RunsPlan v (option_map log disk) (option_map log back) mid new (Err e))
    (sym c.from.ensures)
    (runs_some (option_map log disk) (option_map log back) v (slips_of kept) size fault mid new
    c.in-Ok-open_checkpoint.ensures.begins keeps
    (subst (λ (b : Bool). HasEnded v (slips_of kept) b size (Err fault)) c.in-Ok-open_checkpoint.ensures.some
    (subst (λ (e : Result Done RunFault). HasEnded v (slips_of kept) (is_some kept) size e) is c.run-ended.ensures.ended))
    (subst (λ (e : Result Done RunFault). Takes v (slips_of kept) e mid new) is c.run-ended.ensures.takes)))
