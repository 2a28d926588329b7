use Rattle.std.proofs.Common.{List, ℕ, ◌++◌, ◌∙◌, subst}
use Rattle.std.specs.List.{flat_map}
use Rattle.std.specs.Str.{chars}
use Rattle.cut_jobs.specs.Quoted.{quoted_char}
use Rattle.cut_jobs.specs.inside.Printing.{file_end, file_head}
use Rattle.cut_jobs.specs.Sending.{IsSent}
use Rattle.cut_jobs.proofs.RefusedFiles.{line_is, sent_after, sent_before}
use Rattle.cut_jobs.proofs.joins.report_file.Goals as goal

pub returns-in-Ok : goal.returns-in-Ok
returns-in-Ok g c =
    let log = g.E.Wire.log in
    subst (λ (text : List ℕ). IsSent text (log c.args.errors.now) (log c.report_path.new.errors))
    (line_is c.args.place c.args.path.now)
    (sent_after (file_head c.args.place) (flat_map quoted_char (chars c.args.path.now) ++ file_end)
    (log c.args.errors.now) (log c.send_all.new.wire) (log c.report_path.new.errors)
    (rw (c.as_bytes.ensures.value ∙ c.deref.ensures.0 ∙ c.file_head-head.ensures) at c.in-Ok.ensures)
    c.report_path.ensures)

pub returns-in-Err : goal.returns-in-Err
returns-in-Err g c =
    let log = g.E.Wire.log in
    subst (λ (text : List ℕ). IsSent text (log c.args.errors.now) (log c.send_all.new.wire))
    (line_is c.args.place c.args.path.now)
    (sent_before (file_head c.args.place) (flat_map quoted_char (chars c.args.path.now) ++ file_end) _
    (log c.args.errors.now) (log c.send_all.new.wire)
    (rw (c.as_bytes.ensures.value ∙ c.deref.ensures.0 ∙ c.file_head-head.ensures) at c.in-Err.ensures))
