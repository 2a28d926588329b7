-- A cell that is done has its full sums.
use Rattle.std.proofs.Common.{◌≡◌, ℕ, ◌*◌, ◌&&◌, Bool, true, not, filter, ap}
use Rattle.cut_lists.proofs.Intervals.{passes_at}
use Rattle.cut_lists.proofs.Ranges.{filter_agree_on}
use Rattle.cut_outcome.specs.Sum.{plus, sum_of, trials_of_cell}
use Rattle.cut_ledger.specs.Contents.{Contents, has, is_in_base, cell_done, cell_sum, further_trials, slip_sum}
use Rattle.cut_ledger.specs.Contents.{slips_of_cell}
use Rattle.cut_ledger.specs.Table.{full_sum}

pub done_sum : (l : Contents) (c : ℕ) → cell_done l c ≡ true → cell_sum l c ≡ full_sum l.plan l.base c
done_sum l c done =
    let first : ℕ = c * l.plan.repeats in
    let base : ℕ → Bool = is_in_base l.base in
    let same : further_trials l.plan l.base (has l) c ≡ filter (λ t. not (base t)) (trials_of_cell l.plan c) =
    filter_agree_on (λ t. has l t && not (base t)) (λ t. not (base t)) first l.plan.repeats
    (record {
      same = λ t low high. ap (λ b. b && not (base t)) (passes_at (has l) first l.plan.repeats done t low high);
    }) in
    ap (λ ts. plus (slip_sum (slips_of_cell l.plan l.base c)) (sum_of l.plan ts)) same
