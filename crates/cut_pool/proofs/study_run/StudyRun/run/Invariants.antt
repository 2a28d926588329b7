use Rattle.std.proofs.Common.{false, None, Some}
use Rattle.cut_slots.specs.Start.{start_of}
use Rattle.cut_pool.proofs.study_run.StudyRun.run.Given as goal

abbrev pub ghosts-run-M-Ledger : goal.ghosts-run-M-Ledger
ghosts-run-M-Ledger g a = record { name = a.blanks.made.name; parts = a.blanks.made.parts }

abbrev pub ghosts-run-K-Ledger : goal.ghosts-run-K-Ledger
ghosts-run-K-Ledger g a = record { name = a.blanks.kept.name; parts = a.blanks.kept.parts }

abbrev pub ghosts-run-M-CallLedger : goal.ghosts-run-M-CallLedger
ghosts-run-M-CallLedger g a = record { all = a.blanks.made.parts; trusts = false; opening = None }

abbrev pub ghosts-run-K-CallLedger : goal.ghosts-run-K-CallLedger
ghosts-run-K-CallLedger g a = record {
  all = a.blanks.kept.parts;
  trusts = false;
  opening = Some (start_of g.D.Disk.log a.begun.book);
}
