use Rattle.std.proofs.Common.{◌∙◌, inl, ap}
use Rattle.cut_files.specs.Place.{closed, while_open}
use Rattle.cut_files.proofs.Places.{stands_while_open}
use Rattle.cut_commands.proofs.Sources.{closed_opened, same_place}
use Rattle.cut_machines.proofs.share_command.share.Goals as goal

pub returns-clause-ends : goal.returns-clause-ends
returns-clause-ends g c =
    let first = g.F.Files.log c.args.files.now in
    let mid = g.F.Files.log c.open.new.self in
    let file = c.args.work.file.now in
    let back = g.F.Disk.Disk.log c.share_on-disk.result.disk in
    let stands = same_place mid (while_open file first) c.args.work.plan
    (stands_while_open file first mid c.in_ok-disk.ensures.opened.1 c.in_ok-disk.ensures.elsewhere) in
    inl (
      g.F.Disk.Disk.log c.in_ok-disk.disk,
      back,
      (
        c.in_ok-disk.ensures.opened.0,
        c.close.ensures.closed ∙ ap (closed back) c.in_ok-disk.ensures.opened.1 ∙ closed_opened back (first file),
        rw (c.on.ensures.0, c.on.ensures.1, c.on.ensures.2 ∙ stands) at c.share_on-disk.ensures,
      ),
    )
