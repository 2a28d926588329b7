use Rattle.std.proofs.Common.{refl}
use Rattle.cut_ledger.specs.Machine.{slip_of}
use Rattle.cut_journal.specs.declared.fault.JournalFault.TheVariants.{Broken, OtherPlan}
use Rattle.cut_journal.proofs.Appends.{append_stays}
use Rattle.cut_journal.proofs.journal.Journal.append.Goals as goal

pub returns-then-is_some-clause-appends : goal.returns-then-is_some-clause-appends
returns-then-is_some-clause-appends g c = rw (← c.self.view_is)
    (append_stays g.D.Disk.log Broken (slip_of c.args.offered.now) _ (λ n. refl) c.self.invariant.2)

pub returns-then-not-same-clause-appends : goal.returns-then-not-same-clause-appends
returns-then-not-same-clause-appends g c = rw (← c.self.view_is)
    (append_stays g.D.Disk.log OtherPlan (slip_of c.args.offered.now) _ (λ n. refl) c.self.invariant.2)
