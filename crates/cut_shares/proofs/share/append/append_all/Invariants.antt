use Rattle.std.proofs.Common.{None, take}
use Rattle.cut_shares.proofs.Appends.{slips_of}
use Rattle.cut_shares.proofs.Words.{Adds}
use Rattle.cut_shares.proofs.share.append.append_all.Given as goal

-- the results of the tasks so far are kept
abbrev pub invariant-loop-task : goal.invariant-loop-task
invariant-loop-task g l = record {
  added : Adds g.D.Disk.log (slips_of l.fn.journal.plan (take l.task-index l.tasks)) None l.fn.journal l.journal;
}
