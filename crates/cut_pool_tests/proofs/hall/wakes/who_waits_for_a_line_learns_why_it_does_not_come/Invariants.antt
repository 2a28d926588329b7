use Rattle.std.proofs.Common.{false, None}
use Rattle.cut_pool_tests.proofs.hall.wakes.who_waits_for_a_line_learns_why_it_does_not_come.Given as goal

abbrev pub ghosts-woken_in-M-Ledger : goal.ghosts-woken_in-M-Ledger
ghosts-woken_in-M-Ledger g a = record { name = a.made.name; parts = a.made.parts }

abbrev pub ghosts-woken_in-K-Ledger : goal.ghosts-woken_in-K-Ledger
ghosts-woken_in-K-Ledger g a = record { name = a.kept.name; parts = a.kept.parts }

abbrev pub ghosts-woken_in-M-CallLedger : goal.ghosts-woken_in-M-CallLedger
ghosts-woken_in-M-CallLedger g a = record { all = a.made.parts; trusts = false; opening = None }

abbrev pub ghosts-woken_in-K-CallLedger : goal.ghosts-woken_in-K-CallLedger
ghosts-woken_in-K-CallLedger g a = record { all = a.kept.parts; trusts = false; opening = None }
