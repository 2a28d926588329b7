-- Which types of slots may cross threads.
use denote.RattleType.{RattleType}
use denote.Param.Send.{IsSend, sendable}
use Rattle.std.proofs.Crossing.{crosses}
use Rattle.std.specs.declared.sync.ledger.Ledger as tokens
use Rattle.std.proofs.sync.ledger.Share.TheSendSync as share_crosses
use Rattle.cut_disks.specs.declared.disk.Disk as disk
use Rattle.cut_plan.specs.contracts.plan.Plan as plan
use Rattle.cut_ledger.specs.contracts.ledger.Ledger as ledger
use Rattle.cut_journal.specs.contracts.journal.Journal as journal
use Rattle.cut_journal.proofs.journal.Journal.TheSendSync as journal_crosses
use Rattle.cut_slots.proofs.accounts.Accounts.TheSendSync as accounts_crosses
use Rattle.cut_slots.specs.declared.call_ledger.CallLedger as tally
use Rattle.cut_book.specs.contracts.history.History as history
use Rattle.cut_book.specs.contracts.book.Book as book
use Rattle.cut_slots.specs.contracts.slot.Slot as slot
use Rattle.cut_slots.specs.contracts.accounts.Accounts as accounts

pub plan_send : IsSend plan.the_row
plan_send = search (sendable, crosses) depth 100

pub ledger_send : IsSend ledger.the_row
ledger_send = search (sendable, crosses, plan_send) depth 100

pub history_send : IsSend history.the_row
history_send = search (sendable, crosses, ledger_send) depth 100

module _ (D M K : RattleType) (gD : disk.Ghosts D.Denot) (tM : tally.Ghosts M.Denot) (tK : tally.Ghosts K.Denot)
    (lM : tokens.Ghosts M.Denot) (lK : tokens.Ghosts K.Denot) (send : IsSend D) where
  pub journal_send : IsSend (journal.the_row D gD)
  journal_send = search (sendable, crosses, journal_crosses.the_send, send) depth 100

  pub book_send : IsSend (book.the_row D gD)
  book_send = search (sendable, crosses, ledger_send, journal_send, history_send) depth 100

  pub slot_send : IsSend (slot.the_row D K gD tK lK)
  slot_send = search (sendable, crosses, share_crosses.the_send, book_send) depth 100

  pub accounts_send : IsSend (accounts.the_row M K tM tK lM lK)
  accounts_send = search (sendable, crosses, accounts_crosses.the_send) depth 100
