use Rattle.cut_jobs.proofs.ShareEnds.{share_ends}
use Rattle.cut_jobs.proofs.studies.fn.share_with_progress.work.Goals as goal

pub returns : goal.returns
returns g c =
    share_ends c.captures.options.now c.share_of.result.share c.share_of.result.file c.share_of.result.plan
    (g.F.Files.log c.captures.files.now) (g.F.Files.log c.share.new.files) (g.W.Wire.log c.captures.wire.now)
    (g.W.Wire.log c.share.new.wire) c.share.result c.share_of.ensures.files c.share_of.ensures.share c.share.ensures.ends
    c.share.ensures.elsewhere
