-- The sums of a cell over true slips: those of its trials, each once.
use Rattle.std.proofs.Common.{◌≡◌, ℕ, ◌∙◌, ◌<◌, not, List, filter, refl, ap}
use Rattle.std.proofs.lemmas.List.Filters.{sum_by-filter_both}
use Rattle.cut_outcome.specs.Outcome.{outcome}
use Rattle.cut_ledger.proofs.LawSums.{base_sums}
use Rattle.cut_ledger.proofs.Words.{AreTrue, Slip, Totals, Values, each_number, is_in_base}
use Rattle.cut_ledger.proofs.Words.{plus, sum_of, trials_of_cell}
use Rattle.cut_ledger.specs.Table.{full_sum}

pub true_sum : (v : Values) (ss : List Slip) (c : ℕ) → 0 < v.repeats → AreTrue v ss
    → full_sum v ss c ≡ sum_of v (trials_of_cell v c)
true_sum v ss c some are =
    ap (λ x. plus x (sum_of v (filter (λ t. not (is_in_base ss t)) (trials_of_cell v c)))) (base_sums v ss c some are)
    ∙ ap (λ (g : (Totals → ℕ) → ℕ). each_number g) (λ i x. sum_by-filter_both (is_in_base ss)
    (λ t. not (is_in_base ss t)) (λ t. refl) (λ t. x (outcome v t)) (trials_of_cell v c) i)
