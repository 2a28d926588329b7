use Rattle.std.proofs.Common.{◌≡◌, ◌∙◌, ◌+◌, ◌<◌, ℕ, List, All, take, length, get_or, sum_by, sym, ap, subst, arith}
use Rattle.std.proofs.lemmas.Grind.{take_at_read}
use Rattle.std.proofs.lemmas.List.{take_all}
use Rattle.std.proofs.lemmas.List.Elements.{All-push}
use Rattle.std.proofs.lemmas.List.Sums.{sum_by_push}
use Rattle.cut_slots.specs.Report.{IsAcceptedCount, IsEndOf, SlotEnd, accepted_recorded}
use Rattle.cut_server.proofs.serve.accepted.Goals as goal

pub loop-study-preserved : goal.loop-study-preserved
loop-study-preserved c =
    let slots : List SlotEnd = c.as_slice-slots.result.now in
    let n : ℕ = c.loop-study.study in
    let reported : SlotEnd → ℕ = λ s. accepted_recorded s.history in
    let second : SlotEnd = c.index-slots-study.result in
    let low : n < length slots = omega (arith, c.loop-study-test.true) in
    let last : reported second ≡ reported (get_or slots n second) = ap reported c.index-slots-study.is in
    let sums : sum_by reported (take (n + 1) slots) ≡ sum_by reported (take n slots)
    + reported (get_or slots n second) =
    ap (sum_by reported) (take_at_read slots n second low).1
    ∙ sum_by_push reported (take n slots) (get_or slots n second) in
    let few : IsAcceptedCount (reported (get_or slots n second)) =
    subst IsAcceptedCount (c.accepted.ensures.value ∙ last) c.accepted.ensures.few in
    let ends : IsEndOf (get_or slots n second).history (get_or slots n second).complete =
    subst (λ (s : SlotEnd). IsEndOf s.history s.complete) c.index-slots-study.is c.accepted.ensures.end in
    record {
      sum = omega (arith, c.loop-study.invariant.sum, c.from-total.ensures, c.accepted.ensures.value, last, sums);
      small = omega (arith, c.loop-study.invariant.small, c.from-total.ensures, c.accepted.type_inv);
      legal = subst (All (λ (s : SlotEnd). IsEndOf s.history s.complete)) (sym (take_at_read slots n second low).1)
          (All-push (λ (s : SlotEnd). IsEndOf s.history s.complete) (take n slots) (get_or slots n second)
          c.loop-study.invariant.legal ends);
      few = subst (All (λ (s : SlotEnd). IsAcceptedCount (reported s))) (sym (take_at_read slots n second low).1)
          (All-push (λ (s : SlotEnd). IsAcceptedCount (reported s)) (take n slots) (get_or slots n second)
          c.loop-study.invariant.few few);
    }

pub returns-clause-legal : goal.returns-clause-legal
returns-clause-legal c =
    grind (arith, take_all)

pub returns-clause-few : goal.returns-clause-few
returns-clause-few c =
    grind (arith, take_all)
