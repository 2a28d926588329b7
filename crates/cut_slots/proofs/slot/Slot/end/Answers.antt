use Rattle.std.proofs.Common.{◌≡◌, ◌∙◌, Option, Some, IfSome, ap, subst}
use Rattle.cut_ledger.specs.Contents.{is_complete}
use Rattle.cut_book.specs.Book.{BookValue}
use Rattle.cut_slots.specs.Start.{start_in}
use Rattle.cut_slots.proofs.Ended.{left_of}
use Rattle.cut_slots.proofs.slot.Slot.end.Goals as goal

pub returns-clause-left : goal.returns-clause-left
returns-clause-left g c =
    rw c.new-2.ensures
    (left_of g.D.Disk.log g.K.CallLedger.opening c.in-Some.book c.into_parts-history.result.0 c.complete-complete.result
    c.is_broken-is_broken.result c.into_parts-history.result.1
    (subst (λ (b : Option (BookValue _)). IfSome g.K.CallLedger.opening (λ o. start_in g.D.Disk.log b ≡ Some o))
    c.in-Some.is c.args.self.opened)
    c.into_parts-history.ensures.calls c.into_parts-history.ensures.legal
    (c.complete-complete.ensures ∙ ap is_complete c.ledger.ensures) c.is_broken-is_broken.ensures.value
    c.into_parts-history.ensures.left)
