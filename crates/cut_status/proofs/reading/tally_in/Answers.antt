use Rattle.std.proofs.Common.{List, ℕ, sym, subst}
use Rattle.cut_status.specs.Study.{IsStatusFault}
use Rattle.cut_status.specs.declared.fault.StatusFault.{StatusFault}
use Rattle.cut_status.proofs.Readings.{unreadable}
use Rattle.cut_status.proofs.reading.tally_in.Goals as goal

pub returns-in-Err-clause-err : goal.returns-in-Err-clause-err
returns-in-Err-clause-err c =
    let bytes : List ℕ = c.args.bytes.now in
    subst (λ (e : StatusFault). IsStatusFault bytes e) (sym c.status_fault_of.ensures)
    (unreadable c.canonical_text_reads_back.ensures c.args.plan bytes c.in-Err.fault c.requires.study c.requires.plan
    c.requires.said c.in-Err.ensures.err)
