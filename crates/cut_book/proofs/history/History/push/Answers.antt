use Rattle.std.proofs.Common.{List, ℕ, length}
use Rattle.cut_book.specs.declared.history.Entry.{Entry}
use Rattle.cut_book.proofs.Merged.{one_entry_more, order_of_one_entry_more}
use Rattle.cut_book.proofs.history.History.push.Goals as goal

pub invariant_of-self : goal.invariant_of-self
invariant_of-self c =
    let es : List Entry = c.self.inside.entries.items in
    let ls : List ℕ = c.self.inside.losses.items in
    let legal = rw (← c.self.view_is) at c.requires.legal in
    record {
      plan = c.self.invariant.plan;
      legal = rw (
        c.push_reserved.ensures.items,
        c.len-losses.ensures,
        c.self.inside.losses.ok.0,
        one_entry_more 0 es ls c.args.call c.self.invariant.order,
      ) legal;
      order = rw (c.push_reserved.ensures.items, c.len-losses.ensures, c.self.inside.losses.ok.0)
          (order_of_one_entry_more 0 (length ls) es c.args.call c.self.invariant.order);
    }

pub returns-clause-noted : goal.returns-clause-noted
returns-clause-noted c = record {
  opening = rw (← c.self.view_is);
  calls = rw (← c.self.view_is, c.push_reserved.ensures.items, c.len-losses.ensures, c.self.inside.losses.ok.0)
      (one_entry_more 0 c.self.inside.entries.items c.self.inside.losses.items c.args.call c.self.invariant.order);
}
