-- Elements with flags, and elements that pass a test.
use Rattle.std.proofs.Common.{◌≡◌, ◌∙◌, ℕ, zero, suc, ◌<◌, Bool, true, false, cond, List, [], ◌∷◌, length, filter}
use Rattle.std.proofs.Common.{slice_index, slice_index_or, refl, ap, sym, arith}
use Rattle.std.specs.List.{All, AllPairs}
use Rattle.std.proofs.lemmas.List.Elements.{All-head, All-tail, All-cons, All-nil, All-filter}
use Rattle.cut_arrivals.specs.receivers.LaneVerdicts.{flagged}

-- where flag and test agree, the same are kept
pub flagged_same : (p : ℕ → Bool) (ss : List ℕ) (fs : List Bool) → length fs ≡ length ss
    → ((u : ℕ) → u < length ss → p (slice_index ss u) ≡ slice_index_or fs u false) → filter p ss ≡ flagged ss fs
flagged_same p [] fs long same = refl
flagged_same p (s ∷ ss) [] long same = absurd (omega (arith, long))
flagged_same p (s ∷ ss) (f ∷ fs) long same =
    ap (λ b. cond b (s ∷ filter p ss) (filter p ss)) (same 0 (omega arith))
    ∙ ap (λ rest. cond f (s ∷ rest) rest)
    (flagged_same p ss fs (omega (arith, long)) (λ u low. same (suc u) (omega (arith, low))))

All-flagged : (P : ℕ → Type 0) (ss : List ℕ) (fs : List Bool) → All P ss → All P (flagged ss fs)
All-flagged P [] fs all = All-nil P
All-flagged P (s ∷ ss) [] all = All-nil P
All-flagged P (s ∷ ss) (true ∷ fs) all = All-cons P s (flagged ss fs) (All-head P s ss all) (All-flagged P ss fs
    (All-tail P s ss all))
All-flagged P (s ∷ ss) (false ∷ fs) all = All-flagged P ss fs (All-tail P s ss all)

-- a list that begins with s is none of numbers above s
not_above : (s : ℕ) (xs ys : List ℕ) → All (λ t. s < t) ys → s ∷ xs ≡ ys → ⊥
not_above s xs ys above is =
    grind arith

abbrev tail_of : List ℕ → List ℕ
tail_of [] = []
tail_of (x ∷ xs) = xs

first_above : (s : ℕ) (ss : List ℕ) → AllPairs (λ x y. x < y) (s ∷ ss) → All (λ t. s < t) ss
first_above s ss rise k d low = rise 0 (suc k) d (omega arith) (omega (arith, low))

rest_rises : (s : ℕ) (ss : List ℕ) → AllPairs (λ x y. x < y) (s ∷ ss) → AllPairs (λ x y. x < y) ss
rest_rises s ss rise i j d before low = rise (suc i) (suc j) d (omega (arith, before)) (omega (arith, low))

step : (s : ℕ) (a b : Bool) (xs ys : List ℕ) → All (λ t. s < t) xs → All (λ t. s < t) ys
    → cond a (s ∷ xs) xs ≡ cond b (s ∷ ys) ys
    → (a ≡ b) × (xs ≡ ys)
step s true true xs ys above_x above_y is = (refl, ap tail_of is)
step s false false xs ys above_x above_y is = (refl, is)
step s true false xs ys above_x above_y is = absurd (not_above s xs ys above_y is)
step s false true xs ys above_x above_y is = absurd (not_above s ys xs above_x (sym is))

flags_at : (p : ℕ → Bool) (s : ℕ) (ss : List ℕ) (f : Bool) (fs : List Bool) → p s ≡ f
    → ((u : ℕ) → u < length ss → p (slice_index ss u) ≡ slice_index_or fs u false)
    → (u : ℕ) → u < length (s ∷ ss) → p (slice_index (s ∷ ss) u) ≡ slice_index_or (f ∷ fs) u false
flags_at p s ss f fs here rest zero low = here
flags_at p s ss f fs here rest (suc u) low = rest u (omega (arith, low))

-- and only there
pub flags_same : (p : ℕ → Bool) (ss : List ℕ) (fs : List Bool) → length fs ≡ length ss → AllPairs (λ x y. x < y) ss
    → filter p ss ≡ flagged ss fs → (u : ℕ) → u < length ss → p (slice_index ss u) ≡ slice_index_or fs u false
flags_same p [] fs long rise same = λ u low. absurd (omega (arith, low))
flags_same p (s ∷ ss) [] long rise same = absurd (omega (arith, long))
flags_same p (s ∷ ss) (f ∷ fs) long rise same =
    let above : All (λ t. s < t) ss = first_above s ss rise in
    let parts = step s (p s) f (filter p ss) (flagged ss fs) (All-filter p (λ t. s < t) ss above) (All-flagged
    (λ t. s < t) ss fs above) same in
    flags_at p s ss f fs parts.0 (flags_same p ss fs (omega (arith, long)) (rest_rises s ss rise) parts.1)
