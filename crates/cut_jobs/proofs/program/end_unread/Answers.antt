use Rattle.std.proofs.Common.{refl}
use Rattle.cut_jobs.proofs.ProgramLemmas.{unread_otherwise}
use Rattle.cut_jobs.proofs.program.end_unread.Goals as goal

pub returns-in-InvalidData : goal.returns-in-InvalidData
returns-in-InvalidData g c = rw c.in-InvalidData.is (c.report.ensures, refl)

pub returns-in_default : goal.returns-in_default
returns-in_default g c =
    unread_otherwise c.args.kind c.in_default.not-InvalidData (g.E.Wire.log c.args.errors.now)
    (g.E.Wire.log c.end_fault.new.errors) c.end_fault.result c.end_fault.ensures
