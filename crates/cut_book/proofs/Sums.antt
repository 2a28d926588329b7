-- The trials of the accepted results are no more than the plan has.
use Rattle.std.proofs.Common.{◌≡◌, ◌+◌, ◌++◌, ◌≤◌, ◌||◌, ◌∷◌, [], List, ap, count_by, arith}
use Rattle.std.specs.List.{range_with_len, sum_by}
use Rattle.std.proofs.lemmas.Bool.Decides.{nat_tests}
use Rattle.std.proofs.lemmas.List.FromFn.{length-range_with_len}
use Rattle.std.proofs.lemmas.List.Sums.{sum_by-append, sum_by-cons, count_by-le-length}
use Rattle.cut_lists.proofs.Additions.{count_of_more}
use Rattle.cut_lists.proofs.Intervals.{within_is}
use Rattle.cut_plan.specs.Values.{Values}
use Rattle.cut_plan.specs.Cells.{trial_count}
use Rattle.cut_plan.specs.Plan.{IsPlan}
use Rattle.cut_outcome.specs.declared.piece.Piece.{Piece}
use Rattle.cut_ledger.specs.declared.slip.Slip.{Slip}
use Rattle.cut_ledger.specs.Contents.{is_in_base}
use Rattle.cut_ledger.specs.Laws.{SamePlansAreEqual}
use Rattle.cut_ledger.specs.Machine.{some_slip}
use Rattle.cut_ledger.specs.World.{AreTrue}
use Rattle.cut_ledger.proofs.LawSums.{apart_first, none_in_base, true_rest}
use Rattle.cut_book.specs.declared.call.Call.{Call}
use Rattle.cut_book.specs.History.{Opening, IsLegalHistory, accepted_in, accepted_slip, accepted_slips}
use Rattle.cut_book.specs.inside.HistoryInside.{count_in}
use Rattle.cut_book.proofs.OwnSlips.{take_their_own}

pub first_in : (call : Call) (calls : List Call) → accepted_in (call ∷ calls) ≡ count_in call + accepted_in calls
first_in call calls = sum_by-append (λ slip. slip.piece.count) (accepted_slip call) (accepted_slips calls)

-- true slips, no two of which have a trial, have no more trials than their plan
few_trials : (v : Values) (ss : List Slip) → AreTrue v ss
    → sum_by (λ slip. slip.piece.count) ss ≤ count_by (is_in_base ss) (range_with_len 0 (trial_count v))
few_trials v [] are = omega arith
few_trials v (s ∷ ss) are =
    let p : Piece = s.piece in
    let is = are.each.0.piece in
    let fits : p.first + p.count ≤ trial_count v = grind (arith, nat_tests, is) in
    let more = count_of_more (is_in_base ss) (is_in_base (s ∷ ss)) 0 (trial_count v) p.first p.count (record {
      starts = omega arith;
      ends = omega (arith, fits);
      inside = λ t low high. (let here = within_is p.first (p.first + p.count) t low high
          in (none_in_base ss t (apart_first s ss t (are.apart t) here), ap (λ b. b || is_in_base ss t) here));
      outside = λ t none. grind (arith, nat_tests, none);
    }) in
    let rest = few_trials v ss (true_rest v s ss are) in
    omega (arith, more, rest, sum_by-cons (λ (slip : Slip). slip.piece.count) s ss)

pub accepted_within : SamePlansAreEqual → (o : Opening) (calls : List Call) → IsPlan o.plan → IsLegalHistory o calls
    → accepted_in calls ≤ trial_count o.plan
accepted_within equal o calls plan legal =
    let own = (take_their_own equal o calls legal.0 plan legal.1).own in
    let all : List Slip = accepted_slips calls ++ some_slip legal.0.doubtful in
    let true_slips : AreTrue o.plan all =
    record { each = own.each; apart = λ t. (let once = own.once t in grind arith) } in
    let few = few_trials o.plan all true_slips in
    let sum = sum_by-append (λ (slip : Slip). slip.piece.count) (accepted_slips calls) (some_slip legal.0.doubtful) in
    let most = count_by-le-length (is_in_base all) (range_with_len 0 (trial_count o.plan)) in
    omega (arith, few, sum, most, length-range_with_len 0 (trial_count o.plan))
