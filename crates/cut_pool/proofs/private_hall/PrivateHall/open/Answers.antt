use Rattle.std.proofs.Common.{◌≡◌, Some}
use Rattle.std.proofs.lemmas.List.Elements.{All-pop}
use Rattle.cut_slots.specs.Pass.{Holding}
use Rattle.cut_pool.proofs.private_hall.PrivateHall.open.Goals as goal

pub invariant_of-result : goal.invariant_of-result
invariant_of-result g c =
    let own = All-pop (λ (p : Holding). p.hall ≡ c.in-Ok-of_book.hall.id) c.in-Ok-of_book.others.items
    c.pop.new.self.items (Some c.in-Some.writer) c.in-Some.ensures.items c.in-Ok-of_book.ensures.own in
    record {
      one_slot = c.in-Ok-of_book.ensures.hall.0;
      its_slot = c.in-Ok.ensures.study;
      others_own = own.0;
      writer_own = own.1;
    }
