use Rattle.std.proofs.Common.{Err, inl, inr, arith}
use Rattle.std.proofs.lemmas.Bool.{cases_lt}
use Rattle.std.proofs.lemmas.List.Sorted.{searched}
use Rattle.cut_arrivals.specs.candidates.inside.Reported.{alerts_of, rule_of_reported}
use Rattle.cut_arrivals.proofs.GainLemmas.{gains_found, gains_missed, reported_rise, few_reported}
use Rattle.cut_arrivals.proofs.candidates.reported.Reported.gained.Goals as goal

pub overflow_cast-result : goal.overflow_cast-result
overflow_cast-result c =
    grind (
      arith,
      few_reported (rule_of_reported c.args.self.now) (alerts_of c.args.self.now)
          c.args.self.now.rings.now.nodes c.args.self.now.subjects.now c.args.self.now.all,
    )

pub returns-in-Ok : goal.returns-in-Ok
returns-in-Ok c =
    grind (arith, gains_found)

pub returns-in-Err : goal.returns-in-Err
returns-in-Err c =
    let t = c.args.self.now in
    let missed = searched t.subjects.now c.observer-observer.result (Err c.in-Err.field-0) c.in-Err.ensures.position
    (reported_rise (rule_of_reported t) (alerts_of t) t.rings.now.nodes t.subjects.now t.all) in
    gains_missed t.rings.now (rule_of_reported t) (alerts_of t) t.subjects.now c.args.ring c.args.subject
    c.observer-observer.result t.all c.if-not-self.false c.requires.reported
    c.observer-observer.ensures.value c.observer-observer.ensures.in_range
    (λ i low at. elim (cases_lt i c.in-Err.field-0) [
      | inl before ↦ omega (arith, missed.1 i before, at)
      | inr after ↦ omega (arith, missed.2 i (omega arith) low, at)
    ])
