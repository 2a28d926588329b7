-- The sums of a cell whose base is true: those of its held trials, each once.
use Rattle.std.proofs.Common.{◌≡◌, ℕ, ◌+◌, ◌*◌, ◌/◌, ◌<◌, ◌≤◌, ◌==◌, ◌&&◌, ◌||◌, Bool, true, false, not}
use Rattle.std.proofs.Common.{List, [], ◌∷◌, filter, refl, sym, ap, ◌∙◌, arith, subst}
use Rattle.std.proofs.lemmas.Bool.{eqb-true, eqb-false}
use Rattle.std.proofs.lemmas.Bool.Decides.{nat_tests}
use Rattle.std.proofs.lemmas.List.Filters.{sum_by-filter_both}
use Rattle.std.proofs.lemmas.List.Sums.{sum_by-cons}
use Rattle.cut_lists.proofs.Additions.{PassesPart, sum_of_more}
use Rattle.cut_lists.proofs.Counts.{filter-none}
use Rattle.cut_lists.proofs.Intervals.{passes_at, within_is}
use Rattle.cut_outcome.specs.Outcome.{outcome}
use Rattle.cut_lists.proofs.Ranges.{filter_agree_on}
use Rattle.cut_lists.proofs.Parts.{count_first}
use Rattle.cut_ledger.proofs.Words.{AreTrue, Contents, Piece, Slip, Totals, Values}
use Rattle.cut_ledger.proofs.Words.{cell_done, cell_sum, each_number, further_trials, has, is_in, is_in_base}
use Rattle.cut_ledger.proofs.Words.{pieces_of_slips, plus, slip_sum}
use Rattle.cut_ledger.proofs.Words.{slips_of_cell, sum_by, sum_of, times_in, trials_in, trials_of_cell}
use Rattle.cut_ledger.proofs.CellLemmas.{PieceFacts, piece_in_cell, piece_cell, cell_is}

-- ---- a base whose pieces are apart

-- a trial of the first slip is in no other
pub apart_first : (s : Slip) (ss : List Slip) (t : ℕ) → times_in (pieces_of_slips (s ∷ ss)) t ≤ 1 → is_in s.piece t
    ≡ true → times_in (pieces_of_slips ss) t ≡ 0
apart_first s ss t few e = grind (arith, count_first (λ p. is_in p t) s.piece (pieces_of_slips ss))

pub apart_rest : (s : Slip) (ss : List Slip) (t : ℕ) → times_in (pieces_of_slips (s ∷ ss)) t ≤ 1
    → times_in (pieces_of_slips ss) t ≤ 1
apart_rest s ss t few = omega (arith, few, count_first (λ p. is_in p t) s.piece (pieces_of_slips ss))

pub true_rest : (v : Values) (s : Slip) (ss : List Slip) → AreTrue v (s ∷ ss) → AreTrue v ss
true_rest v s ss are = record { each = are.each.1; apart = λ t. apart_rest s ss t (are.apart t) }

-- a trial that is in no piece is in no base
pub none_in_base : (ss : List Slip) (t : ℕ) → times_in (pieces_of_slips ss) t ≡ 0 → is_in_base ss t ≡ false
none_in_base [] t none = refl
none_in_base (s ∷ ss) t none =
    let sum = count_first (λ p. is_in p t) s.piece (pieces_of_slips ss) in grind (arith, none_in_base ss t)

-- the trials of a slip's piece come to those of the others
piece_more : (v : Values) (s : Slip) (ss : List Slip) (c : ℕ) → PieceFacts v s.piece c
    → ((t : ℕ) → times_in (pieces_of_slips (s ∷ ss)) t ≤ 1)
    → sum_of v (filter (is_in_base (s ∷ ss)) (trials_of_cell v c))
    ≡ plus (sum_of v (trials_in s.piece)) (sum_of v (filter (is_in_base ss) (trials_of_cell v c)))
piece_more v s ss c facts apart =
    let p : Piece = s.piece in
    let part : PassesPart (is_in_base ss) (is_in_base (s ∷ ss)) (c * v.repeats) v.repeats p.first p.count =
    record {
      starts = facts.starts;
      ends = facts.ends;
      inside = λ t low high. (let here = within_is p.first (p.first + p.count) t low high
          in (none_in_base ss t (apart_first s ss t (apart t) here), ap (λ b. b || is_in_base ss t) here));
      outside = λ t none. grind (arith, nat_tests, none);
    } in
    let each : (x : Totals → ℕ) → sum_by (λ t. x (outcome v t)) (filter (is_in_base (s ∷ ss)) (trials_of_cell v c))
    ≡ sum_by (λ t. x (outcome v t)) (trials_in p) + sum_by (λ t. x (outcome v t))
    (filter (is_in_base ss) (trials_of_cell v c)) = λ x.
    omega (
      arith,
      sum_of_more (λ t. x (outcome v t)) (is_in_base ss) (is_in_base (s ∷ ss)) (c * v.repeats) v.repeats
          p.first p.count part,
    ) in
    ap (λ (g : (Totals → ℕ) → ℕ). each_number g) (λ i x. each x i)

-- the totals of the slips of a cell are the sums over the cell's trials that are in the base
pub base_sums : (v : Values) (ss : List Slip) (c : ℕ) → 0 < v.repeats → AreTrue v ss
    → slip_sum (slips_of_cell v ss c) ≡ sum_of v (filter (is_in_base ss) (trials_of_cell v c))
base_sums v [] c some are = rw (filter-none (is_in_base []) (trials_of_cell v c) (λ k d low. refl))
base_sums v (s ∷ ss) c some are = go (s.piece.first / v.repeats == c) refl
    (base_sums v ss c some (true_rest v s ss are))
  where
    cell : List ℕ
    cell = trials_of_cell v c

    facts : PieceFacts v s.piece (s.piece.first / v.repeats)
    facts = piece_in_cell v s.piece some are.each.0.piece

    one_more : slip_sum (s ∷ slips_of_cell v ss c) ≡ plus s.totals (slip_sum (slips_of_cell v ss c))
    one_more = ap (λ (g : (Totals → ℕ) → ℕ). each_number g)
        (λ i x. sum_by-cons (λ (q : Slip). x q.totals) s (slips_of_cell v ss c) i)

    go : (b : Bool) → (s.piece.first / v.repeats == c) ≡ b → slip_sum (slips_of_cell v ss c)
        ≡ sum_of v (filter (is_in_base ss) cell) → slip_sum (slips_of_cell v (s ∷ ss) c)
        ≡ sum_of v (filter (is_in_base (s ∷ ss)) cell)
    go true is rest =
        let here : PieceFacts v s.piece c = subst (PieceFacts v s.piece) (eqb-true (s.piece.first / v.repeats) c is)
        facts in
        rw is (one_more ∙ ap (λ x. plus x (slip_sum (slips_of_cell v ss c))) are.each.0.totals
        ∙ ap (λ x. plus (sum_of v (trials_in s.piece)) x) rest ∙ sym (piece_more v s ss c here are.apart))
    go false is rest =
        let elsewhere : (t : ℕ) → c * v.repeats ≤ t → t < c * v.repeats + v.repeats → is_in s.piece t
        ≡ false = λ t low high.
        (let there = piece_cell v s.piece (s.piece.first / v.repeats) t facts in
        let here = cell_is v.repeats c t low high in
        let other = eqb-false (s.piece.first / v.repeats) c is in grind (arith, nat_tests, other)) in
        rw is (rest ∙ ap (λ x. sum_of v x) (sym (filter_agree_on (is_in_base (s ∷ ss)) (is_in_base ss) (c * v.repeats)
        v.repeats (record { same = λ t low high. ap (λ b. b || is_in_base ss t) (elsewhere t low high) }))))

-- a cell whose trials are all held has the sums over all of them
pub done_sums : (v : Values) (l : Contents) (c : ℕ) → l.plan ≡ v → 0 < v.repeats → AreTrue v l.base
    → cell_done l c ≡ true → cell_sum l c ≡ sum_of v (trials_of_cell v c)
done_sums v l c plan some are done =
    let cell : List ℕ = trials_of_cell v c in
    let base : ℕ → Bool = is_in_base l.base in
    let held : (t : ℕ) → c * v.repeats ≤ t → t < c * v.repeats + v.repeats → has l t
    ≡ true = λ t low high. passes_at (has l) (c * v.repeats) v.repeats (rw plan at done) t low high in
    let further : further_trials v l.base (has l) c ≡ filter (λ t. not (base t)) cell =
    filter_agree_on (λ t. has l t && not (base t)) (λ t. not (base t)) (c * v.repeats) v.repeats
    (record { same = λ t low high. ap (λ b. b && not (base t)) (held t low high) }) in
    let both : (x : Totals → ℕ) → sum_by (λ t. x (outcome v t)) (filter base cell)
    + sum_by (λ t. x (outcome v t)) (filter (λ t. not (base t)) cell) ≡ sum_by (λ t. x (outcome v t)) cell =
    λ x. sum_by-filter_both base (λ t. not (base t)) (λ t. refl) (λ t. x (outcome v t)) cell in
    rw plan (ap (λ x. plus x (sum_of v (further_trials v l.base (has l) c))) (base_sums v l.base c some are)
    ∙ rw further (ap (λ (g : (Totals → ℕ) → ℕ). each_number g) (λ i x. both x i)))
