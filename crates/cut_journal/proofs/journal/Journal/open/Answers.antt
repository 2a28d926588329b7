use Rattle.std.proofs.Common.{◌≡◌, arith}
use Rattle.cut_journal.specs.declared.fault.JournalFault.TheVariants.{NoStudy}
use Rattle.cut_journal.proofs.Claims.{not_opened}
use Rattle.cut_journal.proofs.journal.Journal.open.Goals as goal

pub returns-in-Err-claim-clause-refused : goal.returns-in-Err-claim-clause-refused
returns-in-Err-claim-clause-refused g c =
    let none : c.in-Err.refused.0 ≡ NoStudy = grind arith in
    not_opened c.args.plan.now c.in-Err.refused.0 c.in-Err-claim.refused.0 (g.D.Disk.log c.args.disk)
    (g.D.Disk.log c.in-Err.refused.1) (g.D.Disk.log c.in-Err-claim.refused.1) none
    c.in-Err.ensures.refused c.in-Err-claim.ensures.refused
