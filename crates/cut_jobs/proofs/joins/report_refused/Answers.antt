use Rattle.cut_jobs.proofs.RefusedFiles.{prints_at}
use Rattle.cut_jobs.proofs.joins.report_refused.Goals as goal

pub returns : goal.returns
returns g c = prints_at c.args.files.now c.args.place _ c.requires.some c.requires.few _ _ c.report_file.ensures
