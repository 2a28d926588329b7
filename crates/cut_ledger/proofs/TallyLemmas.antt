-- What a tally says of slips when one more is added.
use Rattle.std.proofs.Common.{◌≡◌, ◌∙◌, ℕ, ◌+◌, ◌-◌, ◌<◌, ◌≤◌, ◌^◌, ◌||◌, Bool, false, List, [], ◌∷◌, ◌++◌}
use Rattle.std.proofs.Common.{length, replicate, take, get_or, sym, ap, arith, length-append}
use Rattle.std.specs.Prelude.{Option, Some, None}
use Rattle.std.proofs.Math.Bool.{or-false}
use Rattle.std.proofs.Math.ListN.{get_or-append}
use Rattle.std.proofs.Math.Seq.{get_or-append_seam, take-append_seam}
use Rattle.std.proofs.lemmas.Bool.{or_right, false_from_ne_true}
use Rattle.std.proofs.lemmas.List.{get_or-replicate, get_or_past, length-replicate, take-append-le}
use Rattle.std.proofs.lemmas.List.FromFn.{length-map-range_with_len, length-range_with_len}
use Rattle.std.proofs.lemmas.List.Sums.{count_by-le-length}
use Rattle.cut_lists.proofs.Additions.{PassesPart, count_of_more}
use Rattle.cut_lists.proofs.Intervals.{within_is}
use Rattle.cut_lists.proofs.Ranges.{All-range_with_len, none_passing}
use Rattle.cut_lists.proofs.Ranks.{count_by_none}
use Rattle.cut_sets.specs.ranges.Held as held
use Rattle.cut_ledger.specs.Tally.{Tally, HasAdded, HasJudged, IsTallyOver}
use Rattle.cut_sets.specs.declared.ranges.span.Span.{Span}
use Rattle.cut_ledger.specs.inside.HeldTrials.{CanBeAdded, HoldsExactly, span_of}
use Rattle.cut_ledger.proofs.Words.{AreGood, AreGoodUpTo, IsFirstBad, IsGood, IsPlan, Piece, Slip, Totals, Values}
use Rattle.cut_ledger.proofs.Words.{all_trials, count_by, is_in, trial_count}
use Rattle.cut_ledger.proofs.AddLemmas.{in_base_more}
use Rattle.cut_ledger.proofs.CellLemmas.{IsMore, in_piece, more_is, piece_facts}
use Rattle.cut_ledger.proofs.SlipLemmas.{good_more}

-- ---- the trials that are held

pub none_held : (v : Values) (trials : held.Held) (t : ℕ) → trials.held ≡ replicate (trial_count v) false
    → held.has trials t ≡ false
none_held v trials t is = grind (arith, length-replicate, get_or-replicate, get_or_past)

pub none_counted : (v : Values) (trials : held.Held) → trials.held ≡ replicate (trial_count v) false
    → count_by (held.has trials) (all_trials v) ≡ 0
none_counted v trials is =
    count_by_none (held.has trials) (all_trials v) (All-range_with_len (λ t. held.has trials t ≡ false) 0
    (trial_count v) (λ t low high. none_held v trials t is))

-- no more than there are, and their number has 32 bits
pub counted_few : (v : Values) (test : ℕ → Bool) → IsPlan v → count_by test (all_trials v) < 2 ^ 32
counted_few v test plan =
    grind (arith, count_by-le-length, length-range_with_len)

-- a piece is put in, none of whose trials was held
pub record IsPut (v : Values) (old new : held.Held) (p : Piece) (x : Totals) : Type 0 where
  pub plan : IsPlan v
  pub all : length old.held ≡ trial_count v
  pub fits : CanBeAdded v old p x
  pub put : new.held ≡ held.with_span old (span_of p)

pub is_put : (v : Values) (old new : held.Held) (p : Piece) (x : Totals) (span : Span) → IsPlan v → length old.held
    ≡ trial_count v → CanBeAdded v old p x → span ≡ span_of p → new.held ≡ held.with_span old span
    → IsPut v old new p x
is_put v old new p x span plan all fits is put = record {
  plan = plan;
  all = all;
  fits = fits;
  put = put ∙ ap (held.with_span old) is;
}

pub put_all : (v : Values) (old new : held.Held) (p : Piece) (x : Totals) → IsPut v old new p x → length new.held
    ≡ trial_count v
put_all v old new p x is = grind (arith, is.put, is.all, length-map-range_with_len)

pub put_some : (v : Values) (old new : held.Held) (p : Piece) (x : Totals) → IsPut v old new p x → 0 < p.count
put_some v old new p x is = (piece_facts v p is.plan is.fits.piece).some

put_more : (v : Values) (old new : held.Held) (p : Piece) (x : Totals) → IsPut v old new p x
    → IsMore (held.has old) (held.has new) p
put_more v old new p x is =
    let facts = piece_facts v p is.plan is.fits.piece in
    more_is old new p (omega (arith, facts.end, is.all)) is.put

put_part : (v : Values) (old new : held.Held) (p : Piece) (x : Totals) → IsPut v old new p x
    → PassesPart (held.has old) (held.has new) 0 (trial_count v) p.first p.count
put_part v old new p x is =
    let facts = piece_facts v p is.plan is.fits.piece in
    let more = put_more v old new p x is in
    record {
      starts = omega arith;
      ends = omega (arith, facts.end);
      inside = λ t a b. (
        none_passing (held.has old) p.first p.count t is.fits.apart a b,
        more.same t ∙ or_right (held.has old t) (is_in p t) (within_is p.first (p.first + p.count) t a b),
      );
      outside = λ t out. more.same t
          ∙ ap (λ b. held.has old t || b)
          (false_from_ne_true (is_in p t) (λ at. (let lies = in_piece p t at in out lies.0 lies.1)))
          ∙ or-false (held.has old t);
    }

pub put_counted : (v : Values) (old new : held.Held) (p : Piece) (x : Totals) → IsPut v old new p x
    → count_by (held.has new) (all_trials v) ≡ count_by (held.has old) (all_trials v) + p.count
put_counted v old new p x is =
    count_of_more (held.has old) (held.has new) 0 (trial_count v) p.first p.count (put_part v old new p x is)

-- ---- good slips and the first that is not

good_before : (v : Values) (ss more : List Slip) (n : ℕ) → n ≤ length ss → AreGoodUpTo v ss n
    → AreGoodUpTo v (ss ++ more) n
good_before v ss more n few good i d low within =
    let here : i < length ss = omega (arith, low, few) in
    rw (take-append-le i ss more (omega (arith, here)), get_or-append ss more d i here) (good i d low here)

first_before : (v : Values) (ss more : List Slip) (n : ℕ) → IsFirstBad v ss n → IsFirstBad v (ss ++ more) n
first_before v ss more n is =
    let here : n - 1 < length ss = omega (arith, is.numbered, is.within) in
    record {
      numbered = is.numbered;
      within = omega (arith, is.within, length-append ss more);
      earlier = good_before v ss more (n - 1) (omega (arith, here)) is.earlier;
      bad = λ d good. is.bad d (rw (
        take-append-le (n - 1) ss more (omega (arith, here)),
        get_or-append ss more d (n - 1) here,
      ) at good);
    }

first_here : (v : Values) (ss : List Slip) (s : Slip) (n : ℕ) → n ≡ length ss → AreGood v ss → (IsGood v ss s → ⊥)
    → IsFirstBad v (ss ++ s ∷ []) (n + 1)
first_here v ss s n is good bad =
    let here : n + 1 - 1 ≡ length ss = omega (arith, is) in
    record {
      numbered = omega arith;
      within = omega (arith, is, length-append ss (s ∷ []));
      earlier = rw here (good_before v ss (s ∷ []) (length ss) (omega arith) good);
      bad = λ d is-good. bad (rw (here, take-append_seam ss (s ∷ []), get_or-append_seam ss s [] d) at is-good);
    }

good_push : (v : Values) (ss : List Slip) (s : Slip) → AreGood v ss → IsGood v ss s → AreGood v (ss ++ s ∷ [])
good_push v ss s good last i d low within =
    let long = length-append ss (s ∷ []) in
    let own : IsGood v (take (length ss) (ss ++ s ∷ [])) (get_or (ss ++ s ∷ []) (length ss) d) =
    rw (take-append_seam ss (s ∷ []), get_or-append_seam ss s [] d) last in
    good_more v (ss ++ s ∷ []) (length ss) d (omega (arith, long))
    (good_before v ss (s ∷ []) (length ss) (omega arith) good) own i d (omega (arith, low, long)) within

-- ---- a tally

pub over_none : (r : Option ℕ) (a : Tally) (ss : List Slip) → r ≡ None → HasJudged r a ss → IsTallyOver a ss
over_none None a ss none is = is
over_none (Some n) a ss none is = absurd (cc)

-- a slip is refused
pub refuses : (a : Tally) (ss : List Slip) (s : Slip) → IsTallyOver a ss → (IsGood a.plan ss s → ⊥)
    → IsFirstBad a.plan (ss ++ s ∷ []) (a.slips + 1)
refuses a ss s over bad = first_here a.plan ss s a.slips over.counted over.good bad

-- a slip is added
adds : (v : Values) (old new : held.Held) (n : ℕ) (ss : List Slip) (s : Slip) → IsPut v old new s.piece s.totals
    → (HoldsExactly old ss → IsGood v ss s)
    → IsTallyOver (record { plan = v; held = old.held; slips = n; refused = None }) ss
    → IsTallyOver (record { plan = v; held = new.held; slips = n + 1; refused = None }) (ss ++ s ∷ [])
adds v old new n ss s put good over =
    let more = put_more v old new s.piece s.totals put in
    record {
      good = good_push v ss s over.good (good over.exactly);
      counted = omega (arith, over.counted, length-append ss (s ∷ []));
      exactly = λ t. more.same t ∙ ap (λ b. b || is_in s.piece t) (over.exactly t) ∙ sym (in_base_more ss s t);
    }

pub judges_on : (r : Option ℕ) (v : Values) (old new : held.Held) (n : ℕ) (ss : List Slip) (s : Slip) → r ≡ None
    → IsPut v old new s.piece s.totals → (HoldsExactly old ss → IsGood v ss s)
    → HasAdded (record { plan = v; held = old.held; slips = n; refused = r }) ss
    → HasAdded (record { plan = v; held = new.held; slips = n + 1; refused = r }) (ss ++ s ∷ [])
judges_on None v old new n ss s none put good added = adds v old new n ss s put good added
judges_on (Some k) v old new n ss s none put good added = absurd (cc)
