use Rattle.std.proofs.Common.{false, None}
use Rattle.cut_server.proofs.serve.Server.serve_sessions.Given as goal

abbrev pub ghosts-serve_by-M-Ledger : goal.ghosts-serve_by-M-Ledger
ghosts-serve_by-M-Ledger g a = record { name = a.blanks.made.name; parts = a.blanks.made.parts }

abbrev pub ghosts-serve_by-K-Ledger : goal.ghosts-serve_by-K-Ledger
ghosts-serve_by-K-Ledger g a = record { name = a.blanks.kept.name; parts = a.blanks.kept.parts }

abbrev pub ghosts-serve_by-M-CallLedger : goal.ghosts-serve_by-M-CallLedger
ghosts-serve_by-M-CallLedger g a = record { all = a.blanks.made.parts; trusts = false; opening = None }

abbrev pub ghosts-serve_by-K-CallLedger : goal.ghosts-serve_by-K-CallLedger
ghosts-serve_by-K-CallLedger g a = record {
  all = a.blanks.kept.parts;
  trusts = g.S.Shelf.is_true a.self.now.shelf.now;
  opening = None;
}
