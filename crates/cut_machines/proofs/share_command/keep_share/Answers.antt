use Rattle.cut_machines.proofs.ShareLemmas.{keeps_all, keeps_fault}
use Rattle.cut_machines.proofs.share_command.keep_share.Goals as goal

pub returns-in-Ok-ended : goal.returns-in-Ok-ended
returns-in-Ok-ended g c =
    rw c.into_disk-disk.ensures.disk
    (keeps_all g.D.Disk.log c.args.plan.now c.in-Ok.opened.1.items c.args.disk c.in-Ok.opened.0 c.run-ended.new.journal
    c.in-Ok.ensures.plan c.in-Ok.ensures.count.0 c.in-Ok.ensures.count.1 c.in-Ok.ensures.found
    c.into_disk-disk.ensures.sound c.in-Ok-ended.count c.args.work.share
    (rw c.as_slice.ensures.value at c.in-Ok-ended.ensures.ends))

pub returns : goal.returns
returns g c =
    rw (c.fault_of_share.ensures, c.into_disk-disk.ensures.disk)
    (keeps_fault g.D.Disk.log c.args.plan.now c.in-Ok.opened.1.items c.args.disk c.in-Ok.opened.0 c.run-ended.new.journal
    c.in-Ok.ensures.plan c.in-Ok.ensures.count.0 c.in-Ok.ensures.count.1 c.in-Ok.ensures.found
    c.into_disk-disk.ensures.sound c.in-Err-ended.fault c.args.work.share
    (rw c.as_slice.ensures.value at c.in-Err-ended.ensures.ends))
