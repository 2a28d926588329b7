use Rattle.std.proofs.Common.{◌≡◌, ◌+◌, ◌++◌, ◌∷◌, [], List, ℕ, length, length-append, refl}
use Rattle.cut_book.specs.declared.history.Entry.{Entry}
use Rattle.cut_book.proofs.Merged.{one_loss_more, order_of_one_loss_more}
use Rattle.cut_book.proofs.history.History.lose.Goals as goal

pub invariant_of-self : goal.invariant_of-self
invariant_of-self c =
    let es : List Entry = c.self.inside.entries.items in
    let ls : List ℕ = c.self.inside.losses.items in
    let legal = rw (← c.self.view_is) at c.requires.legal in
    let long : length (ls ++ c.args.piece ∷ []) ≡ length ls + 1 = length-append ls (c.args.piece ∷ []) in
    record {
      plan = c.self.invariant.plan;
      legal = rw (c.push_reserved.ensures.items, one_loss_more 0 es ls c.args.piece c.self.invariant.order) legal;
      order = rw (c.push_reserved.ensures.items, long)
          (order_of_one_loss_more 0 (length ls) es c.self.invariant.order);
    }

pub returns-clause-noted : goal.returns-clause-noted
returns-clause-noted c = rw (← c.self.view_is, c.push_reserved.ensures.items) (record {
  opening = refl;
  calls = one_loss_more 0 c.self.inside.entries.items c.self.inside.losses.items c.args.piece c.self.invariant.order;
})
