-- A piece with its sums added to what a ledger holds: what is held and summed then.
use Rattle.std.proofs.Common.{◌≡◌, ℕ, ◌+◌, ◌*◌, ◌/◌, ◌<◌, ◌≤◌, inl, inr, Bool, true, false, ◌==◌, ◌&&◌, ◌||◌, not, cond}
use Rattle.std.proofs.Common.{List, [], ◌∷◌, ◌++◌, length, set, refl, sym, ap, ◌∙◌, arith, append-nil}
use Rattle.std.proofs.lemmas.Bool.{cases_eq, eq-eqb, ne_eqb}
use Rattle.std.proofs.lemmas.List.{get_or-set_same, get_or-set_other, length-set}
use Rattle.std.proofs.lemmas.List.Elements.{filter-append}
use Rattle.std.proofs.lemmas.List.Folds.{list_any-append}
use Rattle.std.proofs.lemmas.List.FromFn.{length-map-range_with_len}
use Rattle.std.proofs.lemmas.List.Sums.{sum_by_push}
use Rattle.cut_lists.proofs.Ranges.{filter_agree_on, count_by_agree, none_passing}
use Rattle.cut_lists.proofs.Additions.{PassesPart, count_of_more, sum_of_more}
use Rattle.cut_outcome.specs.Outcome.{outcome}
use Rattle.cut_sets.specs.ranges.Held as held
use Rattle.cut_ledger.specs.inside.HeldTrials.{AreSumsOf, sum_at}
use Rattle.cut_ledger.proofs.Words.{AreKept, IsAdded, IsAtMost, IsTrue, Piece, Slip, Totals, Values}
use Rattle.cut_ledger.proofs.Words.{count_by, each_number, further_trials, is_in, is_in_base}
use Rattle.cut_ledger.proofs.Words.{is_piece, list_any, plus, slips_of_cell, sum_by, sum_of, sum_where}
use Rattle.cut_ledger.proofs.Words.{trials_in, trials_of_cell}
use Rattle.cut_ledger.proofs.CellLemmas.{PieceFacts, piece_facts, in_piece, IsMore, more_is, more_part, more_elsewhere}

-- ---- what is known of the call

pub record Adding (v : Values) (base : List Slip) (old new : held.Held) (olds news : List Totals) (p : Piece)
    (x : Totals) : Type 0 where
  pub kept : AreKept v base old olds
  pub piece : IsTrue (is_piece v p)
  pub apart : list_any (held.has old) (trials_in p) ≡ false
  pub few : IsAtMost (2048 * p.count) x
  pub added : IsAdded old new olds news (p.first / v.repeats) p x

-- and what follows of what is held
pub record Added (v : Values) (old new : held.Held) (olds : List Totals) (p : Piece) : Type 0 where
  pub facts : PieceFacts v p (p.first / v.repeats)
  pub within : p.first / v.repeats < length olds
  pub apart : (t : ℕ) → is_in p t ≡ true → held.has old t ≡ false
  pub more : IsMore (held.has old) (held.has new) p
  pub part : PassesPart (held.has old) (held.has new) (p.first / v.repeats * v.repeats) v.repeats p.first p.count

pub added_is : (v : Values) (base : List Slip) (old new : held.Held) (olds news : List Totals) (p : Piece) (x : Totals)
    → Adding v base old new olds news p x → Added v old new olds p
added_is v base old new olds news p x adding =
    let facts = piece_facts v p adding.kept.plan adding.piece in
    let apart : (t : ℕ) → is_in p t ≡ true → held.has old t ≡ false = λ t e.
    (let at = in_piece p t e in none_passing (held.has old) p.first p.count t adding.apart at.0 at.1) in
    let more = more_is old new p (omega (arith, facts.end, adding.kept.all)) adding.added.held in
    record {
      facts = facts;
      within = omega (arith, facts.cell, adding.kept.long);
      apart = apart;
      more = more;
      part = more_part (held.has old) (held.has new) v p (p.first / v.repeats) facts more apart;
    }

-- ---- sums

-- of a test that passes more, where the base stays
taken_sums : (v : Values) (base : List Slip) (test new : ℕ → Bool) (p : Piece) (c : ℕ) → PieceFacts v p c
    → PassesPart test new (c * v.repeats) v.repeats p.first p.count
    → ((t : ℕ) → is_in_base base t ≡ true → test t ≡ true) → sum_where v base new c
    ≡ plus (sum_where v base test c) (sum_of v (trials_in p))
taken_sums v base test new p c facts part based =
    let further : PassesPart (λ t. test t && not (is_in_base base t)) (λ t. new t && not (is_in_base base t))
    (c * v.repeats) v.repeats p.first p.count = record {
      starts = part.starts;
      ends = part.ends;
      inside = λ t a b. grind (arith, part.inside t a b, based t);
      outside = λ t out. grind (arith, part.outside t out);
    } in
    let each : (n : Totals → ℕ) → sum_by (λ s. n s.totals) (slips_of_cell v base c)
    + sum_by (λ t. n (outcome v t)) (further_trials v base new c) ≡ sum_by (λ s. n s.totals) (slips_of_cell v base c)
    + sum_by (λ t. n (outcome v t)) (further_trials v base test c)
    + sum_by (λ t. n (outcome v t)) (trials_in p) = λ n.
    omega (
      arith,
      sum_of_more (λ t. n (outcome v t)) (λ t. test t && not (is_in_base base t))
          (λ t. new t && not (is_in_base base t)) (c * v.repeats) v.repeats p.first p.count further,
    ) in
    ap (λ (g : (Totals → ℕ) → ℕ). each_number g) (λ i n. each n i)

same_sums : (v : Values) (base : List Slip) (test new : ℕ → Bool) (d : ℕ)
    → ((t : ℕ) → d * v.repeats ≤ t → t < d * v.repeats + v.repeats → new t ≡ test t) → sum_where v base new d
    ≡ sum_where v base test d
same_sums v base test new d same =
    rw (filter_agree_on (λ t. new t && not (is_in_base base t)) (λ t. test t && not (is_in_base base t)) (d * v.repeats)
    v.repeats (record { same = λ t a b. ap (λ x. x && not (is_in_base base t)) (same t a b) }))

-- of a base with one slip more, whose trials are those that pass too
pub in_base_more : (base : List Slip) (s : Slip) (t : ℕ) → is_in_base (base ++ s ∷ []) t
    ≡ (is_in_base base t || is_in s.piece t)
in_base_more base s t = grind (arith, list_any-append)

slip_trials : (v : Values) (base : List Slip) (s : Slip) (test new : ℕ → Bool) (d : ℕ) → IsMore test new s.piece
    → ((t : ℕ) → is_in s.piece t ≡ true → test t ≡ false) → further_trials v (base ++ s ∷ []) new d
    ≡ further_trials v base test d
slip_trials v base s test new d more apart =
    grind (arith, in_base_more)

slip_in_cell : (v : Values) (base : List Slip) (s : Slip) (d : ℕ) (b : Bool) → (s.piece.first / v.repeats == d) ≡ b
    → slips_of_cell v (base ++ s ∷ []) d ≡ slips_of_cell v base d ++ cond b (s ∷ []) []
slip_in_cell v base s d b e =
    grind (arith, filter-append)

slip_sums : (v : Values) (base : List Slip) (s : Slip) (test new : ℕ → Bool) → IsMore test new s.piece
    → ((t : ℕ) → is_in s.piece t ≡ true → test t ≡ false) → sum_where v (base ++ s ∷ []) new (s.piece.first / v.repeats)
    ≡ plus (sum_where v base test (s.piece.first / v.repeats)) s.totals
slip_sums v base s test new more apart =
    let c : ℕ = s.piece.first / v.repeats in
    let slips = slip_in_cell v base s c true (eq-eqb c c refl) in
    let each : (n : Totals → ℕ) → sum_by (λ y. n y.totals) (slips_of_cell v base c ++ s ∷ [])
    + sum_by (λ t. n (outcome v t)) (further_trials v base test c) ≡ sum_by (λ y. n y.totals) (slips_of_cell v base c)
    + sum_by (λ t. n (outcome v t)) (further_trials v base test c) + n s.totals = λ n.
    omega (arith, sum_by_push (λ (y : Slip). n y.totals) (slips_of_cell v base c) s) in
    rw (slips, slip_trials v base s test new c more apart)
    (ap (λ (g : (Totals → ℕ) → ℕ). each_number g) (λ i n. each n i))

slip_elsewhere : (v : Values) (base : List Slip) (s : Slip) (test new : ℕ → Bool) (d : ℕ) → IsMore test new s.piece
    → ((t : ℕ) → is_in s.piece t ≡ true → test t ≡ false) → (d ≡ s.piece.first / v.repeats → ⊥)
    → sum_where v (base ++ s ∷ []) new d ≡ sum_where v base test d
slip_elsewhere v base s test new d more apart other =
    rw (
      slip_in_cell v base s d false (ne_eqb (s.piece.first / v.repeats) d (λ e. other (sym e))),
      append-nil (slips_of_cell v base d),
      slip_trials v base s test new d more apart,
    )

-- ---- bounds

at_most_more : (m n : ℕ) (a b : Totals) → IsAtMost m a → IsAtMost n b → IsAtMost (m + n) (plus a b)
at_most_more m n a b few more = grind arith

-- ---- what is held then

-- over a base whose sums are known
kept_then : (v : Values) (base bases : List Slip) (old new : held.Held) (olds news : List Totals) (p : Piece)
    (x : Totals) → Adding v base old new olds news p x → sum_where v bases (held.has new) (p.first / v.repeats)
    ≡ plus (sum_where v base (held.has old) (p.first / v.repeats)) x
    → ((d : ℕ) → (d ≡ p.first / v.repeats → ⊥) → sum_where v bases (held.has new) d
    ≡ sum_where v base (held.has old) d) → ((t : ℕ) → is_in_base bases t ≡ true → held.has new t ≡ true)
    → AreKept v bases new news
kept_then v base bases old new olds news p x adding own others based = record {
  plan = adding.kept.plan;
  section_len = adding.added.section_len ∙ adding.kept.section_len;
  all = grind (arith, adding.added.held, adding.kept.all, length-map-range_with_len);
  cells = grind (arith, adding.added.others, adding.kept.cells, length-set);
  long = many ∙ adding.kept.long;
  each = λ d in'. rw adding.added.sums (by d (omega (arith, many)));
  based = based;
}
  where
    c : ℕ
    c = p.first / v.repeats

    many : length news ≡ length olds
    many = grind (arith, adding.added.sums, length-set)

    known : Added v old new olds p
    known = added_is v base old new olds news p x adding

    mine : AreSumsOf v bases (held.has new) (p.first / v.repeats) (plus (sum_at olds (p.first / v.repeats)) x)
    mine =
        let before : AreSumsOf v base (held.has old) c (sum_at olds c) = adding.kept.each c known.within in
        let more = count_of_more (held.has old) (held.has new) (c * v.repeats) v.repeats p.first p.count known.part in
        let bound : 2048 * count_by (held.has old) (trials_of_cell v c) + 2048 * p.count
        ≡ 2048 * count_by (held.has new) (trials_of_cell v c) = omega (arith, more) in
        record {
          sums = rw before.sums (sym own);
          few = rw (← bound) (at_most_more _ (2048 * p.count) (sum_at olds c) x before.few adding.few);
        }

    by : (d : ℕ) → d < length olds → AreSumsOf v bases (held.has new) d
        (sum_at (set olds (p.first / v.repeats) (plus (sum_at olds (p.first / v.repeats)) x)) d)
    by d in' = elim (cases_eq d (p.first / v.repeats)) [
      | inl here ↦ rw (here, get_or-set_same olds c (plus (sum_at olds c) x) (each_number (λ n. 0)) known.within) mine
      | inr other ↦
          (let before : AreSumsOf v base (held.has old) d (sum_at olds d) = adding.kept.each d in' in
          let count = count_by_agree (held.has new) (held.has old) (d * v.repeats) v.repeats (record {
            same = λ t a b. more_elsewhere (held.has old) (held.has new) v p c d t known.facts known.more other a b;
          }) in
          rw (get_or-set_other olds c d (plus (sum_at olds c) x) (each_number (λ n. 0)) other)
          (record { sums = before.sums ∙ sym (others d other); few = rw count before.few }))
    ]

-- the result of a piece, whose sums are those of its trials
pub taken_kept : (v : Values) (base : List Slip) (old new : held.Held) (olds news : List Totals) (p : Piece)
    → Adding v base old new olds news p (sum_of v (trials_in p)) → AreKept v base new news
taken_kept v base old new olds news p adding =
    let c : ℕ = p.first / v.repeats in
    let known = added_is v base old new olds news p (sum_of v (trials_in p)) adding in
    kept_then v base base old new olds news p (sum_of v (trials_in p)) adding
    (taken_sums v base (held.has old) (held.has new) p c known.facts known.part adding.kept.based)
    (λ d other. same_sums v base (held.has old) (held.has new) d
    (λ t a b. more_elsewhere (held.has old) (held.has new) v p c d t known.facts known.more other a b))
    (λ t e. grind (arith, known.more.same t, adding.kept.based t e))

-- and a slip, which is one of the base from then on
pub slip_kept : (v : Values) (base : List Slip) (old new : held.Held) (olds news : List Totals) (s : Slip)
    → Adding v base old new olds news s.piece s.totals → AreKept v (base ++ s ∷ []) new news
slip_kept v base old new olds news s adding =
    let known = added_is v base old new olds news s.piece s.totals adding in
    kept_then v base (base ++ s ∷ []) old new olds news s.piece s.totals adding
    (slip_sums v base s (held.has old) (held.has new) known.more known.apart)
    (λ d other. slip_elsewhere v base s (held.has old) (held.has new) d known.more known.apart other)
    (λ t e. grind (arith, known.more.same t, in_base_more base s t, adding.kept.based t))
