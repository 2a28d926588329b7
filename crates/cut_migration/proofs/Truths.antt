-- A slip of version 1 is true where the upgrade gives its trials the same numbers, but for `settled`.
use Rattle.std.proofs.Common.{◌≡◌, ◌∙◌, ℕ, Bool, sym, ap}
use Rattle.std.specs.Prelude.{IsTrue, ◌↔◌}
use Rattle.cut_fields.specs.declared.version.Version.{Version}
use Rattle.cut_fields.specs.declared.version.Version.TheVariants.{One, Two}
use Rattle.cut_plan.specs.Targets.{upgraded}
use Rattle.cut_plan.specs.Values.{Values}
use Rattle.cut_plan.specs.Failing.{version_of}
use Rattle.cut_plan.specs.Plan.{IsPlan}
use Rattle.cut_outcome.specs.declared.totals.Totals.{Totals}
use Rattle.cut_outcome.specs.Laws.{PiecesHavePossibleTotals, UpgradesKeepSums}
use Rattle.cut_outcome.specs.Possible.{IsSettledBy}
use Rattle.cut_outcome.specs.Sum.{is_piece, sum_of, trials_in, without_settled}
use Rattle.cut_ledger.specs.declared.slip.Slip.{Slip}
use Rattle.cut_ledger.specs.World.{IsTrueSlip}

pub none_settled : (version : Version) (proposing deliveries settled : ℕ) → version ≡ One
    → IsSettledBy version proposing deliveries settled → settled ≡ 0
none_settled One proposing deliveries settled is none = none
none_settled Two proposing deliveries settled is within = absurd (cc)

nothing_left_out : (x : Totals) → x.settled ≡ 0 → without_settled x ≡ x
nothing_left_out x none = ap (λ n. record x { settled = n }) (sym none)

pub is_true_by_numbers : (v up : Values) (s : Slip) (x : Totals) (same : Bool) → PiecesHavePossibleTotals
    → UpgradesKeepSums
    → IsPlan v → version_of v.failing ≡ One → up ≡ upgraded v → IsTrue (is_piece v s.piece)
    → x ≡ sum_of up (trials_in s.piece) → (IsTrue same ↔ (without_settled x ≡ s.totals))
    → IsTrue same ↔ IsTrueSlip v s
is_true_by_numbers v up s x same possible keep plan version upgrade piece sums reported =
    let own : Totals = sum_of v (trials_in s.piece) in
    let none = none_settled (version_of v.failing) _ _ own.settled version (possible v s.piece piece).settled in
    let kept : without_settled x ≡ own =
    ap (λ (y : Totals). without_settled y) (sums ∙ ap (λ (w : Values). sum_of w (trials_in s.piece)) upgrade)
    ∙ keep v s.piece plan piece ∙ nothing_left_out own none in (
      λ is. record { piece = piece; totals = sym (reported.0 is) ∙ kept },
      λ (is : IsTrueSlip v s). reported.1 (kept ∙ sym is.totals),
    )
