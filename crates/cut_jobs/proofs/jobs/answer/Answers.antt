use Rattle.std.proofs.Common.{refl, sym, subst}
use Rattle.cut_command_line.specs.declared.job.Job.{Job}
use Rattle.cut_jobs.specs.Jobs.{EndsJob}
use Rattle.cut_jobs.specs.Paths.{Paths, paths_of}
use Rattle.cut_jobs.proofs.ShareEnds.{share_ends}
use Rattle.cut_jobs.proofs.jobs.answer.Goals as goal

-- a share whose progress is not printed
pub returns-in-Share-2-clause-ends : goal.returns-in-Share-2-clause-ends
returns-in-Share-2-clause-ends g c =
    let ends =
    share_ends c.in-Share-2.options c.share_of-work.result.share c.share_of-work.result.file
    c.share_of-work.result.plan (g.F.Files.log c.args.devices.now.files) (g.F.Files.log c.share.new.files)
    (g.W.Wire.log c.args.wire.now) (g.W.Wire.log c.share.new.wire) c.share.result c.share_of-work.ensures.files
    c.share_of-work.ensures.share c.share.ensures.ends c.share.ensures.elsewhere in
    let before = paths_of g.F.Files.log g.S.Sockets.log c.args.devices.now in
    let after : Paths = record { places = g.F.Files.log c.share.new.files; peers = before.peers } in
    subst (λ (job : Job). EndsJob job before after (g.W.Wire.log c.args.wire.now) (g.W.Wire.log c.share.new.wire)
    c.share.result) (sym c.in-Share-2.is) (ends, refl)
