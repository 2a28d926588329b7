use Rattle.std.proofs.Common.{◌∙◌}
use Rattle.cut_machines.proofs.ShareLemmas.{shares_line, shares_none, shares_unread}
use Rattle.cut_machines.proofs.share_command.share_on.Goals as goal

pub returns-in-Err : goal.returns-in-Err
returns-in-Err g c = shares_unread _ c.in-Err.fault _ _ _ _ c.in-Err.ensures

pub returns-in-Ok-kept : goal.returns-in-Ok-kept
returns-in-Ok-kept g c =
    shares_line _ _ c.in-Ok.plan _ _ _ (g.W.Wire.log c.read_plan.new.wire) c.in-Ok.ensures c.keep_share-disk.ensures.known
    _ c.in-Ok-kept.count c.as_bytes.result.now _ (rw c.in-Ok-kept.is at c.keep_share-disk.ensures.ends)
    (rw c.in-Ok-kept.is at c.keep_share-disk.ensures.faults)
    (c.as_bytes.ensures.value ∙ c.deref.ensures.0 ∙ c.share_line.ensures) c.write_answer-ended.ensures

pub returns : goal.returns
returns g c =
    shares_none _ _ c.in-Ok.plan _ _ _ _ c.in-Ok.ensures c.keep_share-disk.ensures.known c.in-Err-kept.fault
    (rw c.in-Err-kept.is at c.keep_share-disk.ensures.ends) (rw c.in-Err-kept.is at c.keep_share-disk.ensures.faults)
