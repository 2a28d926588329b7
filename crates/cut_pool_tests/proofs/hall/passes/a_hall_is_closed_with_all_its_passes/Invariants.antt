use Rattle.std.proofs.Common.{false, None}
use Rattle.cut_pool_tests.proofs.hall.passes.a_hall_is_closed_with_all_its_passes.Given as goal

abbrev pub ghosts-close_new-M-Ledger : goal.ghosts-close_new-M-Ledger
ghosts-close_new-M-Ledger g a = record { name = a.made.name; parts = a.made.parts }

abbrev pub ghosts-close_new-K-Ledger : goal.ghosts-close_new-K-Ledger
ghosts-close_new-K-Ledger g a = record { name = a.kept.name; parts = a.kept.parts }

abbrev pub ghosts-close_new-M-CallLedger : goal.ghosts-close_new-M-CallLedger
ghosts-close_new-M-CallLedger g a = record { all = a.made.parts; trusts = false; opening = None }

abbrev pub ghosts-close_new-K-CallLedger : goal.ghosts-close_new-K-CallLedger
ghosts-close_new-K-CallLedger g a = record { all = a.kept.parts; trusts = false; opening = None }
