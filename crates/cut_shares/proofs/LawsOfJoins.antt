-- Joined slips have the same trials and the same sums of each cell, are good or true as the slips are, and are apart.
use Rattle.std.proofs.lemmas.Grind.{common_steps}
use Rattle.std.proofs.Common.{◌≡◌, ◌∙◌, ℕ, zero, suc, ◌+◌, ◌*◌, ◌/◌, ◌≤◌, ◌==◌, Bool, not, List, [], ◌∷◌, ◌++◌, map}
use Rattle.std.proofs.Common.{filter, length, take, cond, get_or, refl, sym, ap, subst, arith}
use Rattle.std.proofs.Math.Seq.{take-suc}
use Rattle.std.proofs.lemmas.Bool.Decides.{nat_tests}
use Rattle.std.proofs.lemmas.List.{take_all}
use Rattle.std.proofs.lemmas.List.Elements.{All-from_recursion, All-nil, recursion_from_All, filter_agree}
use Rattle.std.proofs.lemmas.List.Sorted.{All-permutation, list_any-IsPermutation, sum_by-IsPermutation}
use Rattle.std.proofs.lemmas.List.Sums.{sum_by-append, sum_by_push}
use Rattle.cut_lists.proofs.Maps.{count_by-map}
use Rattle.cut_lists.proofs.Ranges.{ranges-join}
use Rattle.cut_plan.specs.Failing.{version_of}
use Rattle.cut_outcome.proofs.Places.{settled_more}
use Rattle.cut_ledger.specs.lines.Lines.{header, line_with, table}
use Rattle.cut_ledger.specs.Laws.{TrueSlipsAreGood, TrueSlipsGiveTheTable}
use Rattle.cut_ledger.specs.Table.{full_sum, table_over}
use Rattle.std.specs.Bool.{⊤}
use Rattle.cut_shares.proofs.Goods.{AreSound, Ascend, IsSound, earlier, good_ascend, good_sound, in_order, sound_good}
use Rattle.cut_shares.proofs.Goods.{no_slip, sound_moved}
use Rattle.cut_shares.proofs.Runs.{Adjoin, with_all, with_sum, AreRuns, next_piece, no_runs, rise_apart, runs_joined}
use Rattle.cut_shares.proofs.Runs.{runs_more, same_trials}
use Rattle.cut_shares.proofs.Words.{All, AreApart, AreGood, AreTrue, IsPermutation, IsPlan, IsTrueSlip, Piece, Slip}
use Rattle.cut_shares.proofs.Words.{Totals, Values, cells_of, count_by, each_number, flat_map, is_in, is_in_base}
use Rattle.cut_shares.proofs.Words.{joined, outcome, piece_at, pieces_of_slips, plus, range_with_len, runs_of}
use Rattle.cut_shares.proofs.Words.{slip_of_run, slip_sum, slips_of_cell, spans, sum_by, times_in, trials_in}
use Rattle.cut_shares.proofs.Words.{trials_of_cell, with_next, with_slip}

-- ---- the same slips in another order

pub sum_filter : {X : Type 0} (f : X → ℕ) (p : X → Bool) (xs : List X)
    → sum_by f (filter p xs) ≡ sum_by (λ x. cond (p x) (f x) 0) xs
sum_filter f p [] = refl
sum_filter f p (x ∷ xs) = grind (arith, common_steps, sum_filter f p xs)

pub joined_moved : (v : Values) (ss xs : List Slip) → IsPermutation ss xs → joined v xs ≡ joined v ss
unfolding joined
joined_moved v ss xs moved =
    let trials : (t : ℕ) → is_in_base ss t ≡ is_in_base xs t = λ t.
    list_any-IsPermutation (λ (s : Slip). is_in s.piece t) ss xs moved in
    let sums : (p : Piece) (n : Totals → ℕ) → sum_by (λ s. n s.totals) (filter (λ s. is_in p s.piece.first) xs)
    ≡ sum_by (λ s. n s.totals) (filter (λ s. is_in p s.piece.first) ss) = λ p n.
    sum_filter (λ (s : Slip). n s.totals) (λ s. is_in p s.piece.first) xs
    ∙ sum_by-IsPermutation (λ (s : Slip). cond (is_in p s.piece.first) (n s.totals) 0) ss xs moved
    ∙ sym (sum_filter (λ (s : Slip). n s.totals) (λ s. is_in p s.piece.first) ss) in
    ap (λ (f : Piece → (Totals → ℕ) → ℕ). map (λ p. record { piece = p; totals = each_number (f p) }) (runs_of v xs))
    (λ i p n. sums p n i)
    ∙ ap (λ (test : ℕ → Bool). map (slip_of_run ss) (flat_map (λ c. map piece_at
    (spans test (c * v.repeats) v.repeats)) (range_with_len 0 (length (cells_of v))))) (λ i t. sym (trials t) i)

-- ---- one slip after another

-- what holds of no slips, and stays where one of which Q holds comes after others, holds of the slips, in some order,
-- and of the joined ones
by_slips : (v : Values) (Q : Slip → Type 0) (P : List Slip → List Slip → Type 0) → P [] []
    → ((pre js : List Slip) (x : Slip) → Q x → P pre js → P (pre ++ x ∷ []) (with_slip v js x))
    → (ss : List Slip) → AreSound v ss → All Q ss
    → (xs : List Slip) × (IsPermutation ss xs × (AreRuns v xs (joined v ss) × P xs (joined v ss)))
by_slips v Q P none more ss sound all =
    let found = in_order ss in
    let xs : List Slip = found.0 in
    let moved : IsPermutation ss xs = found.1.0 in
    let is = good_ascend v xs (sound_good v xs (sound_moved v ss xs moved sound)) found.1.1 in
    let made = go xs is (All-permutation Q ss xs moved all) (length xs) (omega arith) in
    let runs = rw (take_all (length xs) xs (omega arith)) at made.1 in
    let same = sym (runs_joined v xs made.0 runs.0) ∙ joined_moved v ss xs moved in
    (xs, (moved, subst (λ js. AreRuns v xs js × P xs js) same runs))
  where
    go : (xs : List Slip) → Ascend v xs → All Q xs → (n : ℕ) → n ≤ length xs
        → (js : List Slip) × (AreRuns v (take n xs) js × P (take n xs) js)
    go xs is each zero le = ([], (no_runs v, none))
    go xs is each (suc n) le =
        let x : Slip = get_or xs n no_slip in
        let before = go xs is each n (omega arith) in
        let runs = runs_more v (take n xs) x (earlier v xs n no_slip is (omega arith)) before.0
        (is.pieces n no_slip (omega arith)) before.1.0 in
        let holds = more (take n xs) before.0 x (each n no_slip (omega arith)) before.1.1 in
        (with_slip v before.0 x, rw (take-suc xs n no_slip (omega arith)) (runs, holds))

module _ (v : Values) (ss : List Slip) (sound : AreSound v ss) where
  -- what holds of all slips, if it holds of two that are merged
  joined_all : (Q : Slip → Type 0) → ((s x : Slip) → Adjoin v s x → Q s → Q x → Q (with_next s x)) → All Q ss
      → All Q (joined v ss)
  joined_all Q merged all =
      (by_slips v Q (λ pre js. All Q js) (All-nil Q)
      (λ pre js x own each. with_all v x Q Q (λ s is. is) (λ s is one. merged s x is one own) own js each) ss sound
      all).1.1.1

  -- a sum over all slips, if two that are merged have the sum of both
  joined_sum : (w : Slip → ℕ) → ((s x : Slip) → Adjoin v s x → w (with_next s x) ≡ w s + w x)
      → sum_by w (joined v ss) ≡ sum_by w ss
  joined_sum w merged =
      let found = by_slips v (IsSound v) (λ pre js. sum_by w js ≡ sum_by w pre) refl
      (λ pre js x _ is. with_sum v x w (λ s. merged s x) js ∙ ap (λ n. n + w x) is ∙ sym (sum_by_push w pre x)) ss
      sound sound.each in
      found.1.1.1 ∙ sum_by-IsPermutation w ss found.0 found.1.0

  -- ---- their trials

  joined_count : (t : ℕ)
      → count_by (λ (s : Slip). is_in s.piece t) (joined v ss) ≡ count_by (λ (s : Slip). is_in s.piece t) ss
  joined_count t = joined_sum (λ s. cond (is_in s.piece t) 1 0) (λ s x is. grind (arith, nat_tests, is))

  joined_times : (t : ℕ) → times_in (pieces_of_slips (joined v ss)) t ≡ times_in (pieces_of_slips ss) t
  joined_times t =
      count_by-map (λ p. is_in p t) (λ (s : Slip). s.piece) (joined v ss) ∙ joined_count t
      ∙ sym (count_by-map (λ p. is_in p t) (λ (s : Slip). s.piece) ss)

  pub joined_trials : (t : ℕ) → is_in_base (joined v ss) t ≡ is_in_base ss t
  joined_trials t = same_trials (joined v ss) ss t (joined_count t)

  pub joined_apart : AreApart v (joined v ss)
  joined_apart = rise_apart v 0 (joined v ss)
      (by_slips v (IsSound v) (λ _ _. ⊤) tt (λ _ _ _ _ _. tt) ss sound sound.each).1.1.0.rise

-- ---- they are good

sound_next : (v : Values) (s x : Slip) → Adjoin v s x → IsSound v s → IsSound v x → IsSound v (with_next s x)
sound_next v s x is one other = record {
  piece = next_piece v s x is one.piece other.piece;
  possible = grind (arith, settled_more, is.cell, one.possible, other.possible);
}

joined_sound : (v : Values) (ss : List Slip) → AreSound v ss → AreSound v (joined v ss)
joined_sound v ss sound = record {
  each = joined_all v ss sound (IsSound v) (sound_next v) sound.each;
  apart = λ t. rw (joined_times v ss sound t) (sound.apart t);
}

pub joined_good : (v : Values) (ss : List Slip) → IsPlan v → AreGood v ss → AreGood v (joined v ss)
joined_good v ss plan good = sound_good v (joined v ss) (joined_sound v ss (good_sound v ss good))

-- ---- they are true

true_next : (v : Values) (s x : Slip) → Adjoin v s x → IsTrueSlip v s → IsTrueSlip v x → IsTrueSlip v (with_next s x)
true_next v s x is one other = record {
  piece = next_piece v s x is one.piece other.piece;
  totals =
      (let p : Piece = s.piece in
      let trials : trials_in (with_next s x).piece ≡ trials_in p ++ trials_in x.piece =
      sym (ranges-join p.first p.count x.piece.count)
      ∙ ap (λ a. trials_in p ++ range_with_len a x.piece.count) is.at in
      rw (one.totals, other.totals, trials) (ap (λ (g : (Totals → ℕ) → ℕ). each_number g)
      (λ i n. sym (sum_by-append (λ t. n (outcome v t)) (trials_in p) (trials_in x.piece)) i)));
}

pub joined_true : TrueSlipsAreGood → (v : Values) (ss : List Slip) → IsPlan v → AreTrue v ss → AreTrue v (joined v ss)
joined_true good v ss plan are =
    let sound = good_sound v ss (good v ss are) in
    record {
      each = recursion_from_All (IsTrueSlip v) (joined v ss) (joined_all v ss sound (IsTrueSlip v) (true_next v)
          (All-from_recursion (IsTrueSlip v) ss are.each));
      apart = λ t. rw (joined_times v ss sound t) (are.apart t);
    }

-- ---- sums of a cell

-- the totals of a cell's slips, added up, stay
cell_slips : (v : Values) (ss : List Slip) (c : ℕ) → AreSound v ss
    → slip_sum (slips_of_cell v (joined v ss) c) ≡ slip_sum (slips_of_cell v ss c)
cell_slips v ss c sound =
    let here : Slip → Bool = λ s. s.piece.first / v.repeats == c in
    let same : (n : Totals → ℕ) → ((a b : Totals) → n (plus a b) ≡ n a + n b)
    → sum_by (λ s. n s.totals) (filter here (joined v ss)) ≡ sum_by (λ s. n s.totals) (filter here ss) = λ n adds.
    sum_filter (λ (s : Slip). n s.totals) here (joined v ss)
    ∙ joined_sum v ss sound (λ s. cond (here s) (n s.totals) 0)
    (λ s x is. grind (arith, nat_tests, is, adds s.totals x.totals))
    ∙ sym (sum_filter (λ (s : Slip). n s.totals) here ss) in
    cc (
      same (λ x. x.receivers) (λ a b. refl),
      same (λ x. x.conflicts) (λ a b. refl),
      same (λ x. x.silent) (λ a b. refl),
      same (λ x. x.extra) (λ a b. refl),
      same (λ x. x.votes) (λ a b. refl),
      same (λ x. x.decided) (λ a b. refl),
      same (λ x. x.right) (λ a b. refl),
      same (λ x. x.settled) (λ a b. refl),
    )

-- and so do the sums of each cell
cell_sums : (v : Values) (ss : List Slip) (c : ℕ) → AreSound v ss → full_sum v (joined v ss) c ≡ full_sum v ss c
cell_sums v ss c sound =
    let rest = filter_agree (λ t. not (is_in_base (joined v ss) t)) (λ t. not (is_in_base ss t))
    (λ t. ap not (joined_trials v ss sound t)) (trials_of_cell v c) in
    cc (cell_slips v ss c sound, rest)

-- ---- the table

pub joined_table : (v : Values) (ss : List Slip) → IsPlan v → AreGood v ss
    → table_over v (joined v ss) ≡ table_over v ss
joined_table v ss plan good =
    let sound = good_sound v ss good in
    ap (λ (sums : ℕ → Totals). header (version_of v.failing)
    ++ flat_map (λ c. line_with v c (sums c)) (range_with_len 0 (length (cells_of v))))
    (λ i c. cell_sums v ss c sound i)

pub joined_whole_table : TrueSlipsAreGood → TrueSlipsGiveTheTable → (v : Values) (ss : List Slip) → IsPlan v
    → AreTrue v ss → table_over v (joined v ss) ≡ table v
joined_whole_table good whole v ss plan are =
    joined_table v ss plan (good v ss are) ∙ whole v ss plan are
