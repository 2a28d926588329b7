use Rattle.std.proofs.Common.{false, None}
use Rattle.cut_pool_tests.proofs.hall.halls.play_scene.Given as goal

abbrev pub ghosts-play_in_hall-M-Ledger : goal.ghosts-play_in_hall-M-Ledger
ghosts-play_in_hall-M-Ledger g a = record { name = a.made.name; parts = a.made.parts }

abbrev pub ghosts-play_in_hall-K-Ledger : goal.ghosts-play_in_hall-K-Ledger
ghosts-play_in_hall-K-Ledger g a = record { name = a.kept.name; parts = a.kept.parts }

abbrev pub ghosts-play_in_hall-M-CallLedger : goal.ghosts-play_in_hall-M-CallLedger
ghosts-play_in_hall-M-CallLedger g a = record { all = a.made.parts; trusts = false; opening = None }

abbrev pub ghosts-play_in_hall-K-CallLedger : goal.ghosts-play_in_hall-K-CallLedger
ghosts-play_in_hall-K-CallLedger g a = record { all = a.kept.parts; trusts = false; opening = None }
