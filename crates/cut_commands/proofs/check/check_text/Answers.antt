use Rattle.std.proofs.Common.{◌≡◌, ◌++◌, ℕ, List, length, codes, ap, ◌∙◌}
use Rattle.cut_plan.specs.Cells.{cells_of, trial_count}
use Rattle.cut_outcome.specs.FastRound.{quorum_of}
use Rattle.cut_commands.specs.Check.{check_text, number_line}
use Rattle.cut_commands.proofs.check.check_text.Goals as goal

pub returns : goal.returns
unfolding check_text
returns c =
    let v = c.args.plan.now in
    let first : List ℕ → List ℕ = λ xs. xs ++ number_line (codes "cells") c.from.result in
    let second : List ℕ → List ℕ = λ xs. xs ++ number_line (codes "trials") c.from-2.result in
    let third : List ℕ → List ℕ = λ xs. xs ++ number_line (codes "quorum") c.from-3.result in
    let cells_are : c.from.result ≡ length (cells_of v) = c.from.ensures ∙ c.cells.ensures.value in
    let trials_are : c.from-2.result ≡ trial_count v = c.from-2.ensures ∙ c.trials.ensures.value in
    let quorum_is : c.from-3.result ≡ quorum_of v.nodes = c.from-3.ensures ∙ c.quorum.ensures
    ∙ ap (λ n. quorum_of n) c.nodes.ensures.value in
    let lines : ℕ → ℕ → ℕ → List ℕ = λ i j k. number_line (codes "cells") i ++ number_line (codes "trials") j
    ++ number_line (codes "quorum") k in
    c.in_ok-push_line-3.ensures ∙ ap third c.in_ok-push_line-2.ensures
    ∙ ap (λ xs. third (second xs)) c.in_ok-push_line.ensures
    ∙ ap (λ xs. third (second (first xs))) c.new-text.ensures.bytes
    ∙ ap (λ i. lines i c.from-2.result c.from-3.result) cells_are
    ∙ ap (λ j. lines (length (cells_of v)) j c.from-3.result) trials_are
    ∙ ap (λ k. lines (length (cells_of v)) (trial_count v) k) quorum_is
