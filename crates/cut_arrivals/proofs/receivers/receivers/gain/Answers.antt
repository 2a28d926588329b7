use Rattle.std.proofs.Common.{◌≡◌, ◌∙◌, ℕ, ◌+◌, ◌<◌, false, List, [], length, slice_index_or, vec_capacity, ap}
use Rattle.std.proofs.Common.{sym, subst, arith}
use Rattle.std.proofs.lemmas.List.{length-set}
use Rattle.cut_arrivals.specs.declared.candidates.candidate.Candidate.{Candidate}
use Rattle.cut_arrivals.specs.receivers.inside.Times.{AreStableAtTo, IsHigh}
use Rattle.cut_arrivals.proofs.Pairs.{pairs_set, pairs_kept}
use Rattle.cut_arrivals.proofs.ReceiversPlaced.{candidate_read, many_reported_at, low_at, many_subjects, subject_at}
use Rattle.cut_arrivals.proofs.ReceiversPlaced.{stable_at_are}
use Rattle.cut_arrivals.proofs.receivers.receivers.gain.Goals.{then-candidate, else-candidate}
use Rattle.cut_arrivals.proofs.receivers.receivers.gain.Goals as goal

pub bounds-reported_at-place : goal.bounds-reported_at-place
bounds-reported_at-place c =
    grind (arith, many_reported_at)

pub bounds-stable_at-place : goal.bounds-stable_at-place
bounds-stable_at-place c =
    grind arith

pub stable_from-requires-clause-candidate : goal.stable_from-requires-clause-candidate
stable_from-requires-clause-candidate c =
    grind (arith, candidate_read)

pub stable_from-requires-clause-reported_at : goal.stable_from-requires-clause-reported_at
stable_from-requires-clause-reported_at c =
    grind (arith, low_at, many_subjects, subject_at)

pub loop-place-preserved : goal.loop-place-preserved
loop-place-preserved c =
    let images = c.args.images.now in
    let place : ℕ = c.loop-place.place in
    let candidates : List Candidate = images.trial.candidates.now.candidates.items in
    let candidate : Candidate = c.candidate-item.result in
    let inside : place < length candidates =
    subst (λ (ns : List Candidate). place < length ns) c.deref-candidate-items.ensures.value c.loop-place-test.true in
    let is : candidate ≡ slice_index_or candidates place candidate =
    c.candidate-item.is ∙ ap (λ (ns : List Candidate). slice_index_or ns place candidate)
    c.deref-candidate-items.ensures.value in
    record {
      stable_at = elim c.if-candidate.branch [
        | then-candidate w ↦ (
            subst (λ (hs : List (List ℕ)). AreStableAtTo images (place + 1) hs) (sym w.stable_at-is)
            (record {
              many = length-set c.loop-place.stable_at place w.stable_from.result ∙
                  c.loop-place.invariant.stable_at.many;
              known = λ u d few kind. pairs_set (λ (d : Candidate) (v : List ℕ). IsHigh images d.subject v) (λ
                  (d : Candidate). d.gains ≡ false) candidates c.loop-place.stable_at place candidate
                  w.stable_from.result [] (omega
                  (arith, inside, c.loop-place.invariant.stable_at.many)) inside is w.stable_from.ensures.high
                  c.loop-place.invariant.stable_at.known u d (omega
                  (arith, few, length-set c.loop-place.stable_at place w.stable_from.result)) kind;
            }))
        | else-candidate w ↦ (
            subst (λ (hs : List (List ℕ)). AreStableAtTo images (place + 1) hs) (sym w.stable_at-is)
            (record {
              many = c.loop-place.invariant.stable_at.many;
              known = pairs_kept (λ (d : Candidate) (v : List ℕ). IsHigh images d.subject v) (λ
                  (d : Candidate). d.gains ≡ false) candidates c.loop-place.stable_at place candidate []
                  inside is w.if-candidate.false c.loop-place.invariant.stable_at.known;
            }))
      ];
      values = elim c.if-candidate.branch [
        | then-candidate w ↦ ap (λ values. vec_capacity values) w.values-is ∙ w.stable_from.ensures.capacity
            ∙ c.loop-place.invariant.values
        | else-candidate w ↦ ap (λ values. vec_capacity values) w.values-is ∙ c.loop-place.invariant.values
      ];
    }

pub returns : goal.returns
returns c i low =
    grind (arith, stable_at_are c.args.images.now c.loop-place.place c.loop-place.stable_at i)
