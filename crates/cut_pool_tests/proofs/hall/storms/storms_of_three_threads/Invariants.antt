use Rattle.std.proofs.Common.{false, None}
use Rattle.cut_pool_tests.proofs.hall.storms.storms_of_three_threads.Given as goal

abbrev pub ghosts-run_storm-M-Ledger : goal.ghosts-run_storm-M-Ledger
ghosts-run_storm-M-Ledger g a = record { name = a.made.name; parts = a.made.parts }

abbrev pub ghosts-run_storm-K-Ledger : goal.ghosts-run_storm-K-Ledger
ghosts-run_storm-K-Ledger g a = record { name = a.kept.name; parts = a.kept.parts }

abbrev pub ghosts-run_storm-M-CallLedger : goal.ghosts-run_storm-M-CallLedger
ghosts-run_storm-M-CallLedger g a = record { all = a.made.parts; trusts = false; opening = None }

abbrev pub ghosts-run_storm-K-CallLedger : goal.ghosts-run_storm-K-CallLedger
ghosts-run_storm-K-CallLedger g a = record { all = a.kept.parts; trusts = false; opening = None }
