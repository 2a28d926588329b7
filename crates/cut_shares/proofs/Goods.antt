-- Good slips: each is sound by itself, and no trial is in two of them, in whatever order they stand.
use Rattle.std.proofs.Common.{◌≡◌, ℕ, zero, suc, ◌+◌, ◌*◌, ◌<◌, ◌≤◌, Bool, true, false, List, [], ◌∷◌, length, take}
use Rattle.std.proofs.Common.{drop, cond, get_or, nat_le, arith, take-append-drop}
use Rattle.std.proofs.Math.Seq.{drop-cons, take-suc}
use Rattle.std.proofs.lemmas.Bool.{leb-false, leb-true}
use Rattle.std.proofs.lemmas.Bool.Decides.{nat_tests}
use Rattle.std.proofs.lemmas.List.{get_or-take, length-take, take_all}
use Rattle.std.proofs.lemmas.List.Elements.{All-from_get_or}
use Rattle.std.proofs.lemmas.List.Folds.{list_any_at}
use Rattle.std.proofs.lemmas.List.Sorted.{All-permutation, IsNonDecreasingBy-insert, IsNonDecreasingBy-short}
use Rattle.std.proofs.lemmas.List.Sorted.{IsPermutation-cons, IsPermutation-map, IsPermutation-refl}
use Rattle.std.proofs.lemmas.List.Sorted.{IsPermutation-insert, IsPermutation-trans, sum_by-IsPermutation}
use Rattle.std.specs.List.{insert, prefix_len}
use Rattle.std.proofs.lemmas.List.Sums.{prefix_len-le-length, prefix_len_passes, prefix_len_stops}
use Rattle.cut_lists.proofs.Ranges.{none_passing}
use Rattle.cut_outcome.proofs.Sum.{few_in}
use Rattle.cut_ledger.proofs.CellLemmas.{few_rings}
use Rattle.cut_ledger.proofs.Law.{times_more, times_once}
use Rattle.cut_ledger.proofs.TrueSlips.{apart_good}
use Rattle.cut_shares.proofs.Runs.{Precedes, facts_of}
use Rattle.cut_shares.proofs.Words.{All, AreAscending, AreGood, ArePossible, IsGood, IsNonDecreasingBy, IsPermutation}
use Rattle.cut_shares.proofs.Words.{IsPlan, IsSmall, IsTrue, Slip, Values, cell_at, each_number, is_in, is_in_base}
use Rattle.cut_shares.proofs.Words.{is_piece, pieces_of_slips, times_in}

-- what is read of a list where nothing is
abbrev pub no_slip : Slip
no_slip = record { piece = record { first = 0; count = 0 }; totals = each_number (λ n. 0) }

-- ---- sound slips that are apart

-- a slip of a piece, with totals that are possible
pub record IsSound (v : Values) (s : Slip) : Type 0 where
  pub piece : IsTrue (is_piece v s.piece)
  pub possible : ArePossible v (cell_at v s.piece.first) s.piece.count s.totals

pub record AreSound (v : Values) (ss : List Slip) : Type 0 where
  pub each : All (IsSound v) ss
  pub apart : (t : ℕ) → times_in (pieces_of_slips ss) t ≤ 1

-- a good slip has no trial of those before it
good_apart : (v : Values) (ss : List Slip) (x : Slip) (t : ℕ) → IsGood v ss x → is_in x.piece t ≡ true
    → is_in_base ss t ≡ false
good_apart v ss x t good here =
    grind (arith, none_passing (is_in_base ss) x.piece.first x.piece.count t good.apart)

-- no trial is in two of the first n
first_apart : (v : Values) (ss : List Slip) (n t : ℕ) → AreGood v ss → n ≤ length ss
    → times_in (pieces_of_slips (take n ss)) t ≤ 1
first_apart v ss zero t good le = omega arith
first_apart v ss (suc n) t good le =
    let x : Slip = get_or ss n no_slip in
    let pre : List Slip = take n ss in
    let once = times_once pre t (first_apart v ss n t good (omega arith)) in
    let apart = good_apart v pre x t (good n no_slip (omega arith) (omega arith)) in
    rw (take-suc ss n no_slip (omega arith)) (grind (arith, times_more pre x t, once, apart))

pub good_sound : (v : Values) (ss : List Slip) → AreGood v ss → AreSound v ss
good_sound v ss good = record {
  each = λ k d low. (let is = good k d low low in record { piece = is.piece; possible = is.possible });
  apart = λ t. rw (take_all (length ss) ss (omega arith)) at
      (first_apart v ss (length ss) t good (omega arith));
}

pub sound_good : (v : Values) (ss : List Slip) → AreSound v ss → AreGood v ss
sound_good v ss sound = λ i d low within.
    (let is = sound.each i d within in
    apart_good v (take i ss) (drop (suc i) ss) (get_or ss i d) is.piece is.possible
    (λ t. rw (← drop-cons ss i d within, take-append-drop i ss) (sound.apart t)))

-- the same slips in another order
pub sound_moved : (v : Values) (ss xs : List Slip) → IsPermutation ss xs → AreSound v ss → AreSound v xs
sound_moved v ss xs moved sound = record {
  each = All-permutation (IsSound v) ss xs moved sound.each;
  apart = λ t. rw (sum_by-IsPermutation (λ p. cond (is_in p t) 1 0) (pieces_of_slips ss) (pieces_of_slips xs)
      (IsPermutation-map (λ (s : Slip). s.piece) ss xs moved)) (sound.apart t);
}

-- ---- slips that ascend

-- slips of pieces of the plan, each of which begins where those before it have ended, or after that
pub record Ascend (v : Values) (ss : List Slip) : Type 0 where
  pub pieces : All (λ (s : Slip). IsTrue (is_piece v s.piece)) ss
  pub ascend : (i j : ℕ) (d : Slip) → i < j → j < length ss →
      (get_or ss i d).piece.first + (get_or ss i d).piece.count ≤ (get_or ss j d).piece.first

-- slips in the order of their first trials
abbrev InOrder : List Slip → Type 0
InOrder ss = IsNonDecreasingBy (λ s. s.piece.first) ss

pub good_ascend : (v : Values) (ss : List Slip) → AreGood v ss → InOrder ss → Ascend v ss
good_ascend v ss good sorted = record {
  pieces = λ k d low. (good k d low low).piece;
  ascend = λ i j d less within. (let x : Slip = get_or ss j d in
      let is = good j d within within in
      let order = sorted i j d (omega arith) within in
      let at = get_or-take j ss i d less in
      let here = list_any_at (λ (s : Slip). is_in s.piece x.piece.first) (take j ss) i d in
      let apart = good_apart v (take j ss) x x.piece.first is in
      grind (arith, nat_tests, order, at, length-take j ss, here, apart, facts_of v x.piece is.piece));
}

pub sound_small : (v : Values) (s : Slip) → IsPlan v → IsSound v s → IsSmall v s
sound_small v s plan sound = record {
  piece = sound.piece;
  few = few_in v (cell_at v s.piece.first) s.piece.count (2048 * s.piece.count) s.totals plan
      (few_rings v s plan sound.piece) sound.possible (omega arith);
}

-- good slips in the order of their first trials
pub moved_ascending : (v : Values) (ss xs : List Slip) → IsPlan v → AreGood v ss → IsPermutation ss xs → InOrder xs
    → AreAscending v xs
moved_ascending v ss xs plan good moved sorted =
    let sound = sound_moved v ss xs moved (good_sound v ss good) in
    record {
      plan = plan;
      small = λ k d low. sound_small v (get_or xs k d) plan (sound.each k d low);
      ascend = (good_ascend v xs (sound_good v xs sound) sorted).ascend;
    }

-- each comes after those before it
pub earlier : (v : Values) (ss : List Slip) (i : ℕ) (d : Slip) → Ascend v ss → i < length ss
    → All (Precedes (get_or ss i d)) (take i ss)
earlier v ss i d is within = All-from_get_or (Precedes (get_or ss i d)) (take i ss) d (λ k low.
    (let less : k < i = omega (arith, low, length-take i ss) in
    rw (get_or-take i ss k d less)
    (record { some = grind (arith, is.pieces k d (omega arith)); ends = is.ascend k i d less within })))

-- ---- slips in order

pub in_order : (ss : List Slip) → (xs : List Slip) × (IsPermutation ss xs × InOrder xs)
in_order [] = ([], (IsPermutation-refl [], IsNonDecreasingBy-short (λ (s : Slip). s.piece.first) [] (omega arith)))
in_order (s ∷ ss) =
    let found = in_order ss in
    let xs : List Slip = found.0 in
    let test : Slip → Bool = λ q. nat_le q.piece.first s.piece.first in
    let n : ℕ = prefix_len test xs in
    let moved = IsPermutation-trans (s ∷ ss) (s ∷ xs) (insert xs n s) (IsPermutation-cons s ss xs found.1.0)
    (IsPermutation-insert xs n s) in
    let sorted = IsNonDecreasingBy-insert (λ (q : Slip). q.piece.first) xs n s found.1.1 (prefix_len-le-length test xs)
    (λ k d low. leb-true _ _ (prefix_len_passes test xs k d low))
    (λ k d from low. (let stops = leb-false _ _ (prefix_len_stops test xs d (omega arith)) in
    omega (arith, stops, found.1.1 n k d from low))) in
    (insert xs n s, (moved, sorted))
