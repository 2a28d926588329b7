use Rattle.std.proofs.Common.{false, None}
use Rattle.cut_server_tests.proofs.worker.serve_two.Given as goal

abbrev pub ghosts-served_in-M-Ledger : goal.ghosts-served_in-M-Ledger
ghosts-served_in-M-Ledger g a = record { name = a.made.name; parts = a.made.parts }

abbrev pub ghosts-served_in-K-Ledger : goal.ghosts-served_in-K-Ledger
ghosts-served_in-K-Ledger g a = record { name = a.kept.name; parts = a.kept.parts }

abbrev pub ghosts-served_in-M-CallLedger : goal.ghosts-served_in-M-CallLedger
ghosts-served_in-M-CallLedger g a = record { all = a.made.parts; trusts = false; opening = None }

abbrev pub ghosts-served_in-K-CallLedger : goal.ghosts-served_in-K-CallLedger
ghosts-served_in-K-CallLedger g a = record { all = a.kept.parts; trusts = false; opening = None }
