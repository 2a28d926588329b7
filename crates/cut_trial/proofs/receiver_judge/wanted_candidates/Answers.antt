use Rattle.std.proofs.Common.{ℕ, ◌<◌, List, length, slice_index_or, ap, subst, ◌∙◌, arith}
use Rattle.std.proofs.lemmas.List.{length-map, get_or-map}
use Rattle.cut_lists.proofs.Maps.{map-map}
use Rattle.cut_arrivals.specs.declared.candidates.candidate.Candidate.{Candidate}
use Rattle.cut_trial.proofs.Judged.{taken_all}
use Rattle.cut_trial.proofs.receiver_judge.wanted_candidates.Goals as goal

pub is_target-requires : goal.is_target-requires
is_target-requires c =
    let candidates : List Candidate = c.args.candidates.now.candidates.items in
    let index : ℕ = c.loop-candidate.candidate-index in
    let candidate : Candidate = c.candidate-item.result in
    let inside : index < length candidates =
    subst (λ (ns : List Candidate). index < length ns) c.deref-candidate-items.ensures.value
    c.loop-candidate-test.true in
    let is = c.candidate-item.is ∙ ap (λ (ns : List Candidate). slice_index_or ns index candidate)
    c.deref-candidate-items.ensures.value in
    let below = c.requires index 0 (omega (arith, inside, length-map candidates (λ (d : Candidate). d.subject))) in
    let at = get_or-map (λ (d : Candidate). d.subject) candidates index candidate 0 inside in
    omega (arith, below, at, ap (λ (d : Candidate). d.subject) is)

pub returns : goal.returns
returns c =
    grind (arith, taken_all, map-map)
