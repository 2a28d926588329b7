-- The runs of slips: what they are, and that slips which are merged one after another are the joined ones.
use Rattle.std.proofs.Common.{◌≡◌, ◌∙◌, ℕ, zero, suc, ◌+◌, ◌-◌, ◌*◌, ◌/◌, ◌<◌, ◌≤◌, inl, inr, Bool, true, false, List}
use Rattle.std.proofs.Common.{[], ◌∷◌, ◌++◌, map, map-id, filter, length, get_or, cond, min, refl, sym, ap, arith}
use Rattle.std.proofs.Common.{append-nil, nat_lt, set}
use Rattle.std.specs.Bool.{⊤}
use Rattle.std.proofs.Math.Nat.{mul-le-mul_right}
use Rattle.std.proofs.lemmas.Bool.{cases_lt, le-ltb, lt-ltb}
use Rattle.std.proofs.lemmas.Bool.Decides.{nat_tests}
use Rattle.std.proofs.lemmas.List.Elements.{All-head, All-tail, filter-append, All-nil, All-cons}
use Rattle.std.proofs.lemmas.List.Folds.{list_any_at}
use Rattle.std.proofs.lemmas.List.Sums.{sum_by_push, sum_by-cons}
use Rattle.cut_lists.proofs.Counts.{filter-none, list_any-count_by}
use Rattle.cut_lists.proofs.Maps.{map-map, maps_agree}
use Rattle.cut_lists.proofs.Ranks.{count_by_none}
use Rattle.cut_sets.proofs.SpanLemmas.{Gives, spans_last, spans_step}
use Rattle.cut_ledger.proofs.CellLemmas.{PieceFacts, cell_is, piece_in_cell}
use Rattle.cut_shares.proofs.Words.{All, AreApart, IsSmall, IsTrue, Piece, Slip, Totals, Values, adjoins, cells_of}
use Rattle.cut_shares.proofs.Words.{count_by, each_number, flat_map, if◌then◌else◌, is_in, is_in_base, is_piece, joined}
use Rattle.cut_shares.proofs.Words.{piece_at, pieces_of_slips, plus, range_with_len, slip_of_run, slip_sum}
use Rattle.cut_shares.proofs.Words.{slips_of_run, spans, sum_by, with_next, with_slip}

-- ---- a slip that goes on where another ends

pub record Adjoin (v : Values) (s x : Slip) : Type 0 where
  pub at : s.piece.first + s.piece.count ≡ x.piece.first
  pub cell : s.piece.first / v.repeats ≡ x.piece.first / v.repeats

pub adjoin_is : (v : Values) (s x : Slip) → adjoins v s.piece x.piece ≡ true → Adjoin v s x
adjoin_is v s x is = grind arith

pub next_small : (v : Values) (s x : Slip) → Adjoin v s x → IsSmall v s → IsSmall v x → IsSmall v (with_next s x)
next_small v s x adjoin one other = grind arith

-- ---- what is kept

-- what holds of each slip, if it holds of those that were there, and of two that are merged
pub with_all : (v : Values) (x : Slip) (P Q : Slip → Type 0) → ((s : Slip) → P s → Q s)
    → ((s : Slip) → Adjoin v s x → P s → Q (with_next s x))
    → Q x → (js : List Slip) → All P js → All Q (with_slip v js x)
with_all v x P Q kept merged own [] all = All-cons Q x [] own (All-nil Q)
with_all v x P Q kept merged own (s ∷ []) all =
    grind (arith, All-head P s [] all, All-nil Q, All-cons Q, adjoin_is v s x, merged s, kept s)
with_all v x P Q kept merged own (s ∷ t ∷ ss) all =
    All-cons Q s (with_slip v (t ∷ ss) x) (kept s (All-head P s (t ∷ ss) all))
    (with_all v x P Q kept merged own (t ∷ ss) (All-tail P s (t ∷ ss) all))

-- a sum over the slips, if two that are merged have the sum of both
pub with_sum : (v : Values) (x : Slip) (w : Slip → ℕ)
    → ((s : Slip) → Adjoin v s x → w (with_next s x) ≡ w s + w x)
    → (js : List Slip) → sum_by w (with_slip v js x) ≡ sum_by w js + w x
with_sum v x w merged [] = grind (arith, sum_by-cons)
with_sum v x w merged (s ∷ []) = grind (arith, sum_by-cons, adjoin_is v s x, merged s)
with_sum v x w merged (s ∷ t ∷ ss) =
    omega (arith, with_sum v x w merged (t ∷ ss), sum_by-cons w s (with_slip v (t ∷ ss) x), sum_by-cons w s (t ∷ ss))

-- ---- as the code has them

-- by the last of them
pub with_last : (v : Values) (ss : List Slip) (x y : Slip) (n : ℕ) → length ss ≡ n + 1 → y ≡ get_or ss n y
    → with_slip v ss x ≡ (if adjoins v y.piece x.piece then set ss n (with_next y x) else ss ++ x ∷ [])
with_last v [] x y n long at = absurd (omega (arith, long))
with_last v (s ∷ []) x y n long at = grind arith
with_last v (s ∷ t ∷ ss) x y zero long at = absurd (omega (arith, long))
with_last v (s ∷ t ∷ ss) x y (suc n) long at = grind (arith, with_last v (t ∷ ss) x y n (omega (arith, long)) at)

-- ---- the runs of a test

module _ (v : Values) (f : ℕ → Bool) where
  -- the runs from a number on: those before cell number d, and those of m cells from there on
  abbrev runs_from : ℕ → ℕ → ℕ → List Piece
  runs_from low d m =
      map piece_at (spans f low (d * v.repeats - low))
      ++ flat_map (λ c. map piece_at (spans f (c * v.repeats) v.repeats)) (range_with_len d m)

  -- numbers that fail have none
  skip : (low next d m : ℕ) → low ≤ next → next ≤ d * v.repeats → Gives f false low next
      → runs_from low d m ≡ runs_from next d m
  skip low next d m le within fails = elim (cases_lt low next) [
    | inl less ↦ rw (
      spans_step f low low next (d * v.repeats) (omega arith) less within (λ t a b. absurd (omega arith)) fails,
      le-ltb low low (omega arith),
    )
    | inr most ↦ ap (λ k. runs_from k d m) (let same : low ≡ next = omega arith in same)
  ]

  -- up to a number of a cell further on
  reach : (i low next d e m k : ℕ) → e ≡ d + i → m ≡ i + k → low ≤ d * v.repeats → low ≤ next → next ≤ e * v.repeats
      → e * v.repeats ≤ next + v.repeats → Gives f false low next → runs_from low d m ≡ runs_from next e k
  reach zero low next d e m k cell count within le below from fails =
      let here : e ≡ d = omega arith in
      let all : m ≡ k = omega arith in
      rw (here, all) (skip low next d k le (rw here at below) fails)
  reach (suc i) low next d e m k cell count within le below from fails =
      let r : ℕ = v.repeats in
      let later : suc d * r ≤ e * r = mul-le-mul_right r (let w : suc d ≤ e = omega arith in w) in
      let more : m ≡ suc (i + k) = omega arith in
      let none : d * r - d * r ≡ 0 = omega arith in
      let whole : (d + 1) * r - d * r ≡ r = omega arith in
      rw more (
      skip low (d * r) d (suc (i + k)) within (omega arith) (λ t a b. fails t a (omega arith))
      ∙ rw none (rw whole at (reach i (d * r) next (d + 1) e (i + k) k (omega arith) refl (omega arith) (omega arith) below
      from (λ t a b. fails t (omega arith) b))))

  -- a piece whose numbers pass, where the one after it fails or is of another cell
  run : (p : Piece) (d m : ℕ) → 0 < p.count → p.first + p.count ≤ d * v.repeats
      → Gives f true p.first (p.first + p.count)
      → (p.first + p.count < d * v.repeats → f (p.first + p.count) ≡ false)
      → runs_from p.first d m ≡ p ∷ runs_from (min (p.first + p.count + 1) (d * v.repeats)) d m
  run p d m some ends passes stops =
      let end : ℕ = p.first + p.count in
      let high : ℕ = d * v.repeats in
      let count : end - p.first ≡ p.count = omega arith in
      elim (cases_lt end high) [
        | inl inside ↦
            (let next : min (end + 1) high ≡ end + 1 = omega arith in
            let step = spans_step f p.first end (end + 1) high (omega arith) (omega arith) (omega arith) passes
            (λ t a b. (let at : t ≡ end = omega arith in rw at (stops inside))) in
            rw (next, step, lt-ltb p.first end (omega arith), count))
        | inr whole ↦
            (let next : min (end + 1) high ≡ high = omega arith in
            let none : high - high ≡ 0 = omega arith in
            let all : high - p.first ≡ p.count = omega arith in
            rw (next, none, all, spans_last f p.first p.count passes, lt-ltb p.first end (omega arith), count))
      ]

-- ---- slips that are apart

-- where the next slip can begin
abbrev pub next_after : Values → Piece → ℕ
next_after v p = min (p.first + p.count + 1) ((p.first / v.repeats + 1) * v.repeats)

-- slips of pieces of the plan, which begin at a number or later, each where it can after the one before it
abbrev pub Rise : Values → ℕ → List Slip → Type 0
Rise v low [] = ⊤
Rise v low (j ∷ js) = IsTrue (is_piece v j.piece) × (low ≤ j.piece.first) × Rise v (next_after v j.piece) js

-- what is known of a piece by itself
pub facts_of : (v : Values) (p : Piece) → IsTrue (is_piece v p) → PieceFacts v p (p.first / v.repeats)
facts_of v p piece = let some : 0 < v.repeats = grind arith in piece_in_cell v p some piece

-- a piece that comes after another, and does not go on from there, begins where it can
after_is : (v : Values) (p q : Piece) → IsTrue (is_piece v p) → IsTrue (is_piece v q) → p.first + p.count ≤ q.first
    → adjoins v p q ≡ false → next_after v p ≤ q.first
after_is v p q piece other le apart =
    let facts = facts_of v p piece in
    grind (arith, nat_tests, cell_is v.repeats (p.first / v.repeats) q.first)

none_before : (v : Values) (low t : ℕ) (js : List Slip) → Rise v low js → t < low → is_in_base js t ≡ false
none_before v low t [] rise below = refl
none_before v low t (j ∷ js) rise below =
    let facts = facts_of v j.piece rise.0 in
    grind (arith, nat_tests, none_before v (next_after v j.piece) t js rise.2)

pub rise_apart : (v : Values) (low : ℕ) (js : List Slip) → Rise v low js → AreApart v js
rise_apart v low [] rise i d within = absurd (omega (arith, within))
rise_apart v low (j ∷ []) rise i d within = absurd (omega (arith, within))
rise_apart v low (j ∷ k ∷ js) rise zero d within =
    let facts = facts_of v j.piece rise.0 in
    grind (arith, facts_of v k.piece rise.2.0)
rise_apart v low (j ∷ k ∷ js) rise (suc i) d within =
    let next : suc i + 1 ≡ suc (i + 1) = omega arith in
    rw next (rise_apart v (next_after v j.piece) (k ∷ js) rise.2 i d (omega arith))

runs_are : (v : Values) (f : ℕ → Bool) (js : List Slip) (low d m : ℕ) → Rise v low js → low ≤ d * v.repeats
    → d * v.repeats ≤ low + v.repeats → length (cells_of v) ≡ d + m → ((t : ℕ) → low ≤ t → f t ≡ is_in_base js t)
    → runs_from v f low d m ≡ pieces_of_slips js
runs_are v f [] low d m rise within from cells same =
    let end : ℕ = (d + m) * v.repeats in
    let none : end - end ≡ 0 = omega arith in
    reach v f m low end d (d + m) m 0 refl (omega arith) within (omega arith) (omega arith) (omega arith)
    (λ t a b. same t a) ∙ rw none
runs_are v f (j ∷ js) low d m rise within from cells same =
    let p : Piece = j.piece in
    let r : ℕ = v.repeats in
    let e : ℕ = p.first / r in
    let end : ℕ = p.first + p.count in
    let le = rise.1 in
    let facts = facts_of v p rise.0 in
    let here : d ≤ e + 1 = elim (cases_lt (e + 1) d) [
      | inl past ↦ absurd (omega (arith, mul-le-mul_right r past))
      | inr before ↦ before
    ] in
    let rest : ℕ = m - (e + 1 - d) in
    reach v f (e + 1 - d) low p.first d (e + 1) m rest (omega arith) (omega arith) within le (omega arith) (omega arith)
    (λ t a b. grind (arith, nat_tests, same t a, none_before v (next_after v p) t js rise.2))
    ∙ run v f p (e + 1) rest facts.some (omega arith) (λ t a b. grind (arith, nat_tests, same t (omega arith)))
    (λ inside. grind (arith, nat_tests, same end (omega arith), none_before v (next_after v p) end js rise.2))
    ∙ ap (λ ps. p ∷ ps) (runs_are v f js (next_after v p) (e + 1) rest rise.2 (omega arith) (omega arith) (omega arith)
    (λ t a. grind (arith, nat_tests, same t (omega arith))))

-- slips that are what the joined ones are
pub record AreRuns (v : Values) (ss js : List Slip) : Type 0 where
  pub rise : Rise v 0 js
  pub times : (t : ℕ) → count_by (λ (s : Slip). is_in s.piece t) js ≡ count_by (λ (s : Slip). is_in s.piece t) ss
  pub sums : All (λ j. slip_of_run ss j.piece ≡ j) js

pub no_runs : (v : Values) → AreRuns v [] []
no_runs v = grind arith

pub same_trials : (xs ys : List Slip) (t : ℕ)
    → count_by (λ (s : Slip). is_in s.piece t) xs ≡ count_by (λ (s : Slip). is_in s.piece t) ys
    → is_in_base xs t ≡ is_in_base ys t
same_trials xs ys t same =
    list_any-count_by (λ (s : Slip). is_in s.piece t) xs ∙ ap (nat_lt 0) same
    ∙ sym (list_any-count_by (λ (s : Slip). is_in s.piece t) ys)

pub runs_joined : (v : Values) (ss js : List Slip) → AreRuns v ss js → joined v ss ≡ js
unfolding joined
runs_joined v ss js are =
    let none : 0 * v.repeats - 0 ≡ 0 = omega arith in
    let runs = runs_are v (is_in_base ss) js 0 0 (length (cells_of v)) are.rise (omega arith) (omega arith) (omega arith)
    (λ t _. sym (same_trials js ss t (are.times t))) in
    ap (map (slip_of_run ss)) (rw none at runs) ∙ map-map (λ (j : Slip). j.piece) (slip_of_run ss) js
    ∙ maps_agree (λ (j : Slip). slip_of_run ss j.piece) (λ j. j) js are.sums ∙ map-id js

-- ---- one slip more

-- a slip that ends where another begins, or before that
pub record Precedes (x s : Slip) : Type 0 where
  pub some : 0 < s.piece.count
  pub ends : s.piece.first + s.piece.count ≤ x.piece.first

-- tests that agree at each element keep the same
filter_same : {X : Type 0} (p q : X → Bool) (xs : List X) → All (λ x. p x ≡ q x) xs → filter p xs ≡ filter q xs
filter_same p q [] same = refl
filter_same p q (x ∷ xs) same =
    grind (arith, All-head (λ y. p y ≡ q y) x xs same, filter_same p q xs (All-tail (λ y. p y ≡ q y) x xs same))

-- a piece with one that goes on where it ends
pub next_piece : (v : Values) (s x : Slip) → Adjoin v s x → IsTrue (is_piece v s.piece)
    → IsTrue (is_piece v x.piece) → IsTrue (is_piece v (with_next s x).piece)
next_piece v s x is one other = grind arith

-- slips with one more after them rise where they have no trial from where it begins
rise_more : (v : Values) (x : Slip) (low : ℕ) (js : List Slip) → Rise v low js → IsTrue (is_piece v x.piece)
    → low ≤ x.piece.first → ((t : ℕ) → x.piece.first ≤ t → is_in_base js t ≡ false) → Rise v low (with_slip v js x)
rise_more v x low [] rise piece le none = grind arith
rise_more v x low (j ∷ []) rise piece le none =
    let facts = facts_of v j.piece rise.0 in
    let ends = none (j.piece.first + j.piece.count - 1) in
    grind (arith, nat_tests, after_is v j.piece x.piece rise.0 piece, adjoin_is v j x, next_piece v j x)
rise_more v x low (j ∷ k ∷ js) rise piece le none =
    let facts = facts_of v k.piece rise.2.0 in
    let first = none k.piece.first in
    let rest = rise_more v x (next_after v j.piece) (k ∷ js) rise.2 piece (grind (arith, nat_tests))
    (λ t from. grind (arith, none t from)) in
    (rise.0, rise.1, rest)

module _ (v : Values) (ss : List Slip) (x : Slip) (before : All (Precedes x) ss) where
  abbrev more : List Slip
  more = ss ++ x ∷ []

  -- a run that ends before it keeps its slips
  earlier_run : (p : Piece) → is_in p x.piece.first ≡ false → slip_of_run more p ≡ slip_of_run ss p
  earlier_run p out =
      let same : slips_of_run more p ≡ slips_of_run ss p = grind (arith, nat_tests, filter-append, append-nil) in
      ap (λ xs. record { piece = p; totals = slip_sum xs }) same

  -- the sums of a run that goes on to its end, by those of the run up to it
  own_sum : (p q : Piece) → p.first ≡ q.first → p.first + p.count ≡ x.piece.first + x.piece.count
      → q.first + q.count ≡ x.piece.first → 0 < x.piece.count
      → slip_sum (slips_of_run more p) ≡ plus (slip_sum (slips_of_run ss q)) x.totals
  own_sum p q first end up_to some =
      let same : slips_of_run ss p ≡ slips_of_run ss q =
      filter_same (λ s. is_in p s.piece.first) (λ s. is_in q s.piece.first) ss
      (λ k d within. grind (arith, nat_tests, before k d within)) in
      let all : slips_of_run more p ≡ slips_of_run ss q ++ x ∷ [] = grind (arith, nat_tests, same, filter-append) in
      ap slip_sum all ∙ ap (λ (g : (Totals → ℕ) → ℕ). each_number g)
      (λ i n. sum_by_push (λ (s : Slip). n s.totals) (slips_of_run ss q) x i)

  pub runs_more : (js : List Slip) → IsTrue (is_piece v x.piece) → AreRuns v ss js → AreRuns v more (with_slip v js x)
  runs_more js piece are =
      let own : Slip → ℕ → ℕ = λ s t. cond (is_in s.piece t) 1 0 in
      let some : 0 < x.piece.count = (facts_of v x.piece piece).some in
      let none : (t : ℕ) → x.piece.first ≤ t → is_in_base js t ≡ false = λ t from.
      list_any-count_by (λ (s : Slip). is_in s.piece t) js ∙ ap (nat_lt 0) (are.times t
      ∙ count_by_none (λ (s : Slip). is_in s.piece t) ss (λ k d low. grind (arith, nat_tests, before k d low))) in
      record {
        rise = rise_more v x 0 js are.rise piece (omega arith) none;
        times = λ t. with_sum v x (λ s. own s t) (λ s is. grind (arith, nat_tests, is)) js
            ∙ ap (λ n. n + own x t) (are.times t) ∙ sym (sum_by_push (λ s. own s t) ss x);
        sums = with_all v x (λ j. (slip_of_run ss j.piece ≡ j) × (is_in j.piece x.piece.first ≡ false))
            (λ j. slip_of_run more j.piece ≡ j)
            (λ s is. earlier_run s.piece is.1 ∙ is.0)
            (λ s adjoin is.
            (let made : Totals → Slip = λ t. record { piece = (with_next s x).piece; totals = t } in
            ap made (own_sum (with_next s x).piece s.piece refl (omega (arith, adjoin.at)) adjoin.at some
            ∙ ap (λ (j : Slip). plus j.totals x.totals) is.0)))
            (let q : Piece = record { first = x.piece.first; count = 0 } in
            let empty : slips_of_run ss q ≡ [] =
            filter-none (λ s. is_in q s.piece.first) ss (λ k d low. grind (arith, nat_tests)) in
            grind (arith, own_sum x.piece q refl refl (omega arith) some, empty)) js
            (λ k d low.
            (let here = list_any_at (λ (s : Slip). is_in s.piece x.piece.first) js k d low in
            (are.sums k d low, grind (arith, none x.piece.first, here))));
      }
