use Rattle.std.proofs.Common.{◌≡◌, ◌∙◌, ℕ, ◌+◌, List, [], ◌∷◌, refl, arith}
use Rattle.std.proofs.lemmas.Bool.Decides.{nat_tests}
use Rattle.std.proofs.lemmas.List.Sums.{sum_by-cons, sum_by-le}
use Rattle.cut_shares.proofs.Counting.{count_part, of_same}
use Rattle.cut_shares.proofs.Words.{IsTrue, Piece, Share, Values, all_trials, is_in, is_piece, one_if, own_times}
use Rattle.cut_shares.proofs.Words.{own_trials, sum_by, trial_count}
use Rattle.cut_shares.proofs.share.share_pieces.SharePieces.trials_left.Goals as goal

-- sums of two functions, and of what they are together
sums_join : (f g h : ℕ → ℕ) (ts : List ℕ) → ((t : ℕ) → f t + g t ≡ h t) → sum_by f ts + sum_by g ts ≡ sum_by h ts
sums_join f g h [] both = refl
sums_join f g h (t ∷ ts) both =
    omega (arith, sum_by-cons f t ts, sum_by-cons g t ts, sum_by-cons h t ts, both t, sums_join f g h ts both)

-- one piece fewer
one_taken : (s : Share) (v : Values) (p : Piece) (old new : List Piece) → IsTrue (is_piece v p)
    → ((t : ℕ) → one_if (is_in p t) + own_times s v new t ≡ own_times s v old t)
    → p.count + own_trials s v new ≡ own_trials s v old
one_taken s v p old new piece taken =
    let sums = sums_join (λ t. one_if (is_in p t)) (own_times s v new) (own_times s v old) (all_trials v) taken in
    omega (arith, sums, count_part (is_in p) 0 (trial_count v) p.first p.count (grind (arith, nat_tests)))

-- none is left
none_left : (s : Share) (v : Values) (ps : List Piece) → ((t : ℕ) → own_times s v ps t ≡ 0) → own_trials s v ps ≡ 0
none_left s v ps none =
    omega (arith, sum_by-le (own_times s v ps) 0 (all_trials v) (λ k d low. omega (arith, none)))

pub loop-piece-preserved : goal.loop-piece-preserved
loop-piece-preserved c =
    let is = c.loop-piece.invariant in
    let step = c.in-Some.ensures in
    let left = c.loop-piece.pieces in
    let old : List Piece = left.rest ∷ left.later.now in
    let new : List Piece = c.next.new.self.rest ∷ c.next.new.self.later.now in
    let taken = of_same (λ s v. c.in-Some.piece.count + own_trials s v new ≡ own_trials s v old) is.share is.plan
    (one_taken left.share left.plan.now c.in-Some.piece old new step.own.piece step.taken) in
    record {
      plan = step.plan ∙ is.plan;
      share = step.share ∙ is.share;
      fewer = omega (arith, taken, is.fewer);
      counted = omega (arith, c.saturating_add-trials.ensures, c.from.ensures, taken, is.fewer, is.counted);
    }

pub returns : goal.returns
returns c =
    let is = c.loop-piece.invariant in
    let left = c.loop-piece.pieces in
    let none = of_same (λ s v. own_trials s v (left.rest ∷ left.later.now) ≡ 0) is.share is.plan
    (none_left left.share left.plan.now (left.rest ∷ left.later.now) c.in_default.ensures.none) in
    omega (arith, none, is.counted)
