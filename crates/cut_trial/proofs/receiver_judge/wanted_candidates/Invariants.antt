use Rattle.std.proofs.Common.{◌≡◌, map, take}
use Rattle.cut_outcome.proofs.Words.{is_target}
use Rattle.cut_trial.proofs.receiver_judge.wanted_candidates.Given as goal

abbrev pub invariant-loop-candidate : goal.invariant-loop-candidate
invariant-loop-candidate l = l.wanted.items ≡ map (λ d. is_target l.roles d.subject)
    (take l.candidate-index l.candidates.candidates.items)
