use Rattle.std.specs.List.{flat_map}
use Rattle.std.specs.Str.{chars}
use Rattle.cut_jobs.specs.Quoted.{quoted_char}
use Rattle.cut_jobs.specs.inside.Printing.{file_end}
use Rattle.cut_jobs.proofs.RefusedFiles.{sent_after, whole_is}
use Rattle.cut_jobs.proofs.joins.report_path.Goals as goal

pub returns-then-send_quoted : goal.returns-then-send_quoted
returns-then-send_quoted g c =
    let log = g.E.Wire.log in
    sent_after (flat_map quoted_char (chars c.args.path.now)) file_end (log c.args.errors.now)
    (log c.send_quoted.new.errors) (log c.report.new.errors)
    (whole_is _ _ _ _ c.send_quoted.ensures c.if-send_quoted.true) c.report.ensures
