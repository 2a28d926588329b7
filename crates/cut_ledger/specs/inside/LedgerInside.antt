-- What of a `Ledger` contracts see, and what is always true of it.
use Rattle.cut_ledger.specs.declared.ledger.Ledger.TheInside.{Inside}
use Rattle.cut_ledger.specs.Account.{Account}
use Rattle.cut_ledger.specs.inside.HeldTrials.{AreKept, account_in}

abbrev pub account_of : Inside → Account
account_of l = account_in l.plan l.base l.held_trials.trials

abbrev pub IsKeeping : Inside → Type 0
IsKeeping l = AreKept l.plan l.base l.held_trials.trials l.held_trials.sums.items
