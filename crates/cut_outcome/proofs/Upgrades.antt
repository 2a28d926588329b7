-- A plan and its upgrade: as many targets of a trial are deaf, so it draws the same roles, and all else but what
-- the plan says of places is the same.
use Rattle.std.proofs.Common.{◌≡◌, ℕ, List, [], ◌∷◌, refl, ap, arith}
use Rattle.cut_outcome.proofs.Words.{All, Contains, Cell, Values, IsPlan, Totals, deaf_of, Layout, Source, source_of}
use Rattle.cut_outcome.proofs.Words.{drawn, rings_of, totals_of, cell_at, each_number, outcome, proposals_of, trials_in}
use Rattle.cut_outcome.proofs.Words.{without_settled}
use Rattle.std.specs.List.{sum_by}
use Rattle.std.proofs.lemmas.List.Elements.{All-head, All-tail}
use Rattle.std.proofs.lemmas.List.Sums.{sum_by-cons}
use Rattle.cut_lists.proofs.Ranges.{All-range_with_len}
use Rattle.cut_plan.specs.Combinations.{AreCombinations}
use Rattle.cut_plan.specs.Targets.{upgraded}
use Rattle.cut_alerts.specs.Laws.{AsManyDeafDrawAlike}
use Rattle.cut_outcome.specs.Laws.{UpgradesKeepOutcomes, UpgradesKeepSums}
use Rattle.cut_outcome.proofs.Outcomes.{cell_listed}
use Rattle.cut_outcome.proofs.Pieces.{piece_facts}

pub keep_outcomes : ((w : Values) → IsPlan w → AreCombinations w)
    → ((w : Values) (f : ℕ) → Contains w.f f → deaf_of (upgraded w) f ≡ deaf_of w f)
    → AsManyDeafDrawAlike → UpgradesKeepOutcomes
unfolding outcome
keep_outcomes combinations as_many alike v t plan inside =
    let c : Cell = cell_at v t in
    let r : Layout = rings_of v in
    let d : Source = source_of v.seed t in
    let is = ((combinations v plan).listed c).0 (cell_listed v t plan inside) in
    let roles : drawn (upgraded v) c.f d r ≡ drawn v c.f d r =
    (alike v (upgraded v).failing v.failing c.f d r (as_many v c.f is.f_listed)).roles in
    ap (λ a. without_settled (totals_of v c a (proposals_of v c r d a))) roles

-- what is the same of each element adds up to the same
pub same_sums : (f g : ℕ → ℕ) (ts : List ℕ) → All (λ t. f t ≡ g t) ts → sum_by f ts ≡ sum_by g ts
same_sums f g [] same = refl
same_sums f g (t ∷ ts) same =
    omega (
      arith,
      sum_by-cons f t ts,
      sum_by-cons g t ts,
      All-head (λ s. f s ≡ g s) t ts same,
      same_sums f g ts (All-tail (λ s. f s ≡ g s) t ts same),
    )

pub keep_sums : UpgradesKeepOutcomes → UpgradesKeepSums
keep_sums keeps v p plan piece =
    let ends = (piece_facts v p piece).end in
    let each : (x : Totals → ℕ) → sum_by (λ t. x (without_settled (outcome (upgraded v) t))) (trials_in p)
    ≡ sum_by (λ t. x (without_settled (outcome v t))) (trials_in p) =
    λ x. same_sums _ _ (trials_in p)
    (All-range_with_len (λ t. x (without_settled (outcome (upgraded v) t)) ≡ x (without_settled (outcome v t)))
    p.first p.count (λ t _ below. ap x (keeps v t plan (omega (arith, below, ends))))) in
    ap (λ (h : (Totals → ℕ) → ℕ). without_settled (each_number h)) (λ i x. each x i)
