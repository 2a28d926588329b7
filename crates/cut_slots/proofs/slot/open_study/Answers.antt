use Rattle.std.proofs.Common.{List, sym, subst}
use Rattle.cut_ledger.specs.Slips.{AreGood}
use Rattle.cut_ledger.specs.declared.slip.Slip.{Slip}
use Rattle.cut_slots.proofs.Begun.{begun_over}
use Rattle.cut_slots.proofs.slot.open_study.Goals as goal

pub returns-clause-good : goal.returns-clause-good
returns-clause-good g c = subst (λ (slips : List Slip). AreGood c.args.plan slips) (sym c.in_ok-opened.ensures.base)
    c.in_ok-book.ensures.good

pub returns-clause-over : goal.returns-clause-over
returns-clause-over g c =
    let over = c.in_ok-book.ensures.over in
    begun_over g.D.Disk.log c.args.plan (g.S.Shelf.gives c.args.shelf.now c.args.plan) over.0
    c.in_ok-book.book over.1.0 over.1.1
