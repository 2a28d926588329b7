use Rattle.std.proofs.Common.{false, None}
use Rattle.cut_server_tests.proofs.halls.serve.Given as goal

abbrev pub ghosts-served-M-Ledger : goal.ghosts-served-M-Ledger
ghosts-served-M-Ledger g a = record { name = a.made.name; parts = a.made.parts }

abbrev pub ghosts-served-K-Ledger : goal.ghosts-served-K-Ledger
ghosts-served-K-Ledger g a = record { name = a.kept.name; parts = a.kept.parts }

abbrev pub ghosts-served-M-CallLedger : goal.ghosts-served-M-CallLedger
ghosts-served-M-CallLedger g a = record { all = a.made.parts; trusts = false; opening = None }

abbrev pub ghosts-served-K-CallLedger : goal.ghosts-served-K-CallLedger
ghosts-served-K-CallLedger g a = record { all = a.kept.parts; trusts = false; opening = None }
