-- How many trials slips hold, how many cells of a tally are done, and the status over slips.
use Rattle.std.proofs.Common.{◌≡◌, ◌∙◌, ◌+◌, ◌<◌, ◌≤◌, ◌^◌, ◌||◌, ℕ, Bool, cond}
use Rattle.std.proofs.Common.{List, [], ◌∷◌, length, take, get_or, sym, ap, subst, arith, zero-add, refl}
use Rattle.std.specs.Prelude.{IsTrue, Option, Some, None}
use Rattle.std.specs.List.{range_with_len, count_by, list_all}
use Rattle.std.proofs.Math.Bool.{or-false}
use Rattle.std.proofs.lemmas.Bool.{or_right, false_from_ne_true}
use Rattle.std.proofs.lemmas.List.{take_more}
use Rattle.std.proofs.lemmas.List.Folds.{list_any-append}
use Rattle.std.proofs.lemmas.List.FromFn.{length-range_with_len}
use Rattle.std.proofs.lemmas.List.Sums.{count_by-le-length, sum_by-cons, sum_by_push}
use Rattle.cut_lists.proofs.Additions.{PassesPart, count_of_more}
use Rattle.cut_lists.proofs.Intervals.{within_is}
use Rattle.cut_lists.proofs.Ranges.{none_passing, range_with_len_more}
use Rattle.cut_plan.specs.Canonical.{canonical_text}
use Rattle.cut_plan.specs.Cells.{cells_of, trial_count}
use Rattle.cut_plan.specs.Plan.{IsPlan}
use Rattle.cut_plan.specs.Values.{Values}
use Rattle.cut_outcome.specs.declared.piece.Piece.{Piece}
use Rattle.cut_outcome.specs.Sum.{is_piece, trials_of_cell}
use Rattle.cut_ledger.specs.declared.slip.Slip.{Slip}
use Rattle.cut_ledger.specs.Contents.{all_trials, is_in, is_in_base}
use Rattle.cut_ledger.specs.Slips.{AreGood, IsFirstBad, IsGood}
use Rattle.cut_ledger.specs.Tally.{Tally, HasAdded, HasJudged, IsTallyOver, has_cell, has_trial}
use Rattle.cut_status.specs.Status.{StatusValue, held_trials, status_over}
use Rattle.cut_status.specs.inside.Counts.{done_among}
use Rattle.cut_ledger.proofs.CellLemmas.{in_piece}

-- ---- no slip

none_in : (ns : List ℕ) → count_by (is_in_base []) ns ≡ 0
none_in [] = refl
none_in (n ∷ ns) = omega (arith, sum_by-cons (λ (t : ℕ). cond {A = ℕ} (is_in_base [] t) 1 0) n ns, none_in ns)

pub held_none : (v : Values) → 0 ≡ held_trials v []
held_none v = sym (none_in (all_trials v))

-- ---- one slip more

in_more : (ss : List Slip) (i : ℕ) (d : Slip) (t : ℕ) → i < length ss → is_in_base (take (i + 1) ss) t
    ≡ (is_in_base (take i ss) t || is_in (get_or ss i d).piece t)
in_more ss i d t within =
    grind (arith, take_more ss i d within, list_any-append)

piece_ends : (v : Values) (p : Piece) → IsTrue (is_piece v p) → p.first + p.count ≤ trial_count v
piece_ends v p piece =
    grind arith

-- the trials of a good slip are in it, and in none before it
part_more : (v : Values) (ss : List Slip) (i : ℕ) (d : Slip) → i < length ss → IsGood v (take i ss) (get_or ss i d)
    → PassesPart (is_in_base (take i ss)) (is_in_base (take (i + 1) ss)) 0 (trial_count v)
    (get_or ss i d).piece.first (get_or ss i d).piece.count
part_more v ss i d within good =
    let p : Piece = (get_or ss i d).piece in
    let old : List Slip = take i ss in
    let ends : p.first + p.count ≤ trial_count v = piece_ends v p good.piece in
    record {
      starts = omega arith;
      ends = omega arith;
      inside = λ t a b. (
        none_passing (is_in_base old) p.first p.count t good.apart a b,
        in_more ss i d t within
            ∙ or_right (is_in_base old t) (is_in p t) (within_is p.first (p.first + p.count) t a b),
      );
      outside = λ t out. in_more ss i d t within
          ∙ ap (λ b. is_in_base old t || b)
          (false_from_ne_true (is_in p t) (λ is. (let at = in_piece p t is in out at.0 at.1)))
          ∙ or-false (is_in_base old t);
    }

pub held_more : (v : Values) (ss : List Slip) (i : ℕ) (d : Slip) → AreGood v ss → i < length ss
    → held_trials v (take (i + 1) ss) ≡ held_trials v (take i ss) + (get_or ss i d).piece.count
held_more v ss i d good within =
    count_of_more (is_in_base (take i ss)) (is_in_base (take (i + 1) ss)) 0 (trial_count v)
    (get_or ss i d).piece.first (get_or ss i d).piece.count (part_more v ss i d within (good i d within within))

-- no more trials are held than there are, and their number has 32 bits
pub held_few : (v : Values) (ss : List Slip) → IsPlan v → held_trials v ss < 2 ^ 32
held_few v ss plan =
    grind (arith, count_by-le-length, length-range_with_len)

-- ---- one cell more

pub done_more : (a : Tally) (n : ℕ) → done_among a (n + 1) ≡ done_among a n + cond (has_cell a n) 1 0
done_more a n =
    grind (arith, range_with_len_more 0 n n (zero-add n), sum_by_push)

pub done_few : (a : Tally) (n : ℕ) → done_among a n ≤ n
done_few a n = omega (arith, count_by-le-length (has_cell a) (range_with_len 0 n), length-range_with_len 0 n)

-- ---- the status over slips

-- by a test of the trials that are held
abbrev pub status_by : Values → (ℕ → Bool) → ℕ → StatusValue
status_by v test n = record {
  held = count_by test (all_trials v);
  trials = trial_count v;
  done = count_by (λ c. list_all test (trials_of_cell v c)) (range_with_len 0 (length (cells_of v)));
  cells = length (cells_of v);
  slips = n;
  text = canonical_text v;
}

none_refused : (r : Option ℕ) (a : Tally) (ss : List Slip) → r ≡ None → HasJudged r a ss → IsTallyOver a ss
none_refused None a ss none is = is
none_refused (Some n) a ss none is = absurd (cc)

pub tally_status : (a : Tally) (ss : List Slip) → a.refused ≡ None → HasAdded a ss → AreGood a.plan ss
    × (status_by a.plan (has_trial a) a.slips ≡ status_over a.plan ss)
tally_status a ss none added =
    let over : IsTallyOver a ss = none_refused a.refused a ss none added in (
      over.good,
      ap (λ (test : ℕ → Bool). status_by a.plan test a.slips) (λ i t. over.exactly t i)
          ∙ ap (status_by a.plan (is_in_base ss)) over.counted,
    )

some_refused : (r : Option ℕ) (n : ℕ) (a : Tally) (ss : List Slip) → r ≡ Some n → HasJudged r a ss
    → IsFirstBad a.plan ss n
some_refused None n a ss some is = absurd (cc)
some_refused (Some k) n a ss some is =
    let same : k ≡ n = cc in subst (λ (i : ℕ). IsFirstBad a.plan ss i) same is

pub tally_refused : (a : Tally) (ss : List Slip) (n : ℕ) → a.refused ≡ Some n → HasAdded a ss
    → IsFirstBad a.plan ss n
tally_refused a ss n some added = some_refused a.refused n a ss some added
