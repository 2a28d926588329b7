use Rattle.std.proofs.Common.{◌≡◌, ◌+◌, ◌++◌, ◌∙◌, List, [], ◌∷◌, length, ap, arith, length-append}
use Rattle.std.proofs.lemmas.List.Sums.{sum_by_push}
use Rattle.cut_slots.specs.Report.{SlotEnd, calls_recorded, calls_in_all}
use Rattle.cut_hall.proofs.Openings.{none_opened, one_more_opened}
use Rattle.cut_hall.proofs.close.end_all.Goals as goal

one_more : (slots now : List SlotEnd) (slot : SlotEnd) → now ≡ slots ++ slot ∷ []
    → (length now ≡ length slots + 1) × (calls_in_all now ≡ calls_in_all slots + calls_recorded slot.history)
one_more slots now slot is = (
  ap length is ∙ length-append slots (slot ∷ []),
  ap calls_in_all is ∙ sum_by_push (λ (s : SlotEnd). calls_recorded s.history) slots slot,
)

none_yet : (slots : List SlotEnd) → slots ≡ [] → (length slots ≡ 0) × (calls_in_all slots ≡ 0)
none_yet slots is = (ap length is, ap calls_in_all is)

pub loop-place-init : goal.loop-place-init
loop-place-init g c =
    let none = none_yet c.in_ok-slots.slots.items c.in_ok-slots.ensures.items in
    let more = one_more c.in_ok-slots.slots.items c.push.new.self.items c.end-report.result.report c.in_ok-push.ensures.items
    in
    record {
      many = omega (arith, none.0, more.0, c.into_iter-place-iterator.ensures.into_iter_gives.1, c.remove.ensures.len);
      parts = omega (arith, none.0, more.0, c.end-report.ensures.part);
      amount = omega (arith, none.1, more.1, c.end-report.ensures.calls);
      opened = one_more_opened g.K.CallLedger.opening c.in_ok-slots.slots.items c.push.new.self.items
          c.end-report.result.report c.in_ok-push.ensures.items
          (none_opened g.K.CallLedger.opening c.in_ok-slots.slots.items c.in_ok-slots.ensures.items)
          c.end-report.ensures.opened;
    }

pub loop-place-preserved : goal.loop-place-preserved
loop-place-preserved g c =
    let more = one_more c.loop-place.slots.items c.push-in-loop-place.new.self.items c.end-report-in-loop-place.result.report
    c.in_ok-push-2.ensures.items in
    let at = c.loop-place.invariant in
    record {
      many = omega (arith, at.many, more.0, c.in-Some.ensures.steps.1);
      parts = omega (arith, c.merge.ensures.parts, at.parts, c.end-report-in-loop-place.ensures.part, more.0);
      amount = omega (arith, c.merge.ensures.amount, at.amount, c.end-report-in-loop-place.ensures.calls, more.1);
      opened = one_more_opened g.K.CallLedger.opening c.loop-place.slots.items c.push-in-loop-place.new.self.items
          c.end-report-in-loop-place.result.report c.in_ok-push-2.ensures.items at.opened
          c.end-report-in-loop-place.ensures.opened;
    }

pub returns : goal.returns
returns g c =
    let at = c.loop-place.invariant in
    let none = c.in-None.ensures.steps.0 in
    record {
      slots = omega (arith, at.many, none);
      kept = (omega (arith, at.parts, at.many, none), at.amount);
      opened = at.opened;
    }
