-- The pieces that a ledger lacks, added one after another.
use Rattle.std.proofs.Common.{◌≡◌, ℕ, zero, suc, ◌+◌, ◌*◌, ◌<◌, ◌≤◌, ◌==◌, ◌&&◌, ◌||◌, Bool, true, false, not}
use Rattle.std.proofs.Common.{cond, List, [], ◌∷◌, ◌++◌, Some, filter, length, take, drop, slice_get, nat_lt, nat_le}
use Rattle.std.proofs.Common.{refl, sym, ap, ◌∙◌, arith}
use Rattle.std.specs.Prelude.{count_by}
use Rattle.std.specs.List.{range_with_len, flat_map, list_any}
use Rattle.std.proofs.Math.Seq.{split_at}
use Rattle.std.proofs.lemmas.Bool.Decides.{nat_tests}
use Rattle.std.proofs.lemmas.List.Sums.{sum_by-append}
use Rattle.std.proofs.lemmas.Option.{slice_get_within, get_or_from_slice_get}
use Rattle.cut_plan.specs.Values.{Values}
use Rattle.cut_plan.specs.Cells.{cells_of, trial_count}
use Rattle.cut_plan.specs.Plan.{IsPlan}
use Rattle.cut_outcome.specs.declared.piece.Piece.{Piece}
use Rattle.cut_outcome.specs.Sum.{trials_in}
use Rattle.cut_lists.proofs.Counts.{list_any-count_by}
use Rattle.cut_lists.proofs.Intervals.{list_all_passing, map_agree, passes_at, within_is}
use Rattle.cut_lists.proofs.Parts.{count_first}
use Rattle.cut_lists.proofs.Ranges.{list_any_none_passing}
use Rattle.cut_lists.proofs.Prefixes.{flat_map_prefix, whole_prefix}
use Rattle.cut_plan.specs.Failing.{version_of}
use Rattle.cut_ledger.specs.lines.Lines.{header, line_with, table}
use Rattle.cut_ledger.specs.declared.slip.Slip.{Slip}
use Rattle.cut_ledger.specs.Contents.{Contents, has, held_where, is_in, is_in_base, over_base, with_piece}
use Rattle.cut_ledger.specs.Contents.{overlaps, cell_done, cell_sum, is_complete}
use Rattle.cut_ledger.specs.Gaps.{pieces_of}
use Rattle.cut_ledger.specs.Laws.{with_pieces, AreFilling}
use Rattle.cut_ledger.specs.Machine.{available}
use Rattle.cut_ledger.specs.Table.{full_sum, table_over}
use Rattle.cut_ledger.specs.World.{AreTrue, times_in}
use Rattle.cut_sets.specs.ranges.Laws.{SpansCover}
use Rattle.cut_ledger.proofs.CoverLemmas.{pieces_cover}
use Rattle.cut_ledger.proofs.CellLemmas.{held_at}
use Rattle.cut_ledger.proofs.FullSums.{done_sum}
use Rattle.cut_ledger.proofs.Law.{times-append}
use Rattle.cut_ledger.proofs.LawBytes.{available_whole, in_plan}

-- ---- how often a trial is in the pieces

-- a number is once among those of a range that pass where it is in the range and passes, and else not
count_passing : (free : ℕ → Bool) (a n t : ℕ) → count_by (λ x. x == t) (filter free (range_with_len a n))
    ≡ cond (nat_le a t && nat_lt t (a + n) && free t) 1 0
count_passing free a zero t = grind (arith, nat_tests)
count_passing free a (suc n) t =
    let first = count_first (λ x. x == t) a (filter free (range_with_len (a + 1) n)) in
    grind (arith, nat_tests, count_passing free (a + 1) n t)

-- a trial is in the trials of pieces as often as it is in the pieces
pub count_trials : (ps : List Piece) (t : ℕ) → count_by (λ x. x == t) (flat_map trials_in ps) ≡ times_in ps t
count_trials [] t = refl
count_trials (p ∷ ps) t =
    let first = count_first (λ q. is_in q t) p ps in
    let here = count_in_range p.first p.count t in
    let both = sum_by-append (λ x. cond (x == t) 1 0) (trials_in p) (flat_map trials_in ps) in
    omega (arith, first, here, both, count_trials ps t)
  where
    count_in_range : (a n t : ℕ) → count_by (λ x. x == t) (range_with_len a n)
        ≡ cond (nat_le a t && nat_lt t (a + n)) 1 0
    count_in_range a zero t = grind (arith, nat_tests)
    count_in_range a (suc n) t =
        let first = count_first (λ x. x == t) a (range_with_len (a + 1) n) in
        grind (arith, nat_tests, count_in_range (a + 1) n t)

-- the pieces that a ledger lacks have each trial that is not held once, and no other
times_free : SpansCover → (l : Contents) (size t : ℕ) → 1 ≤ size → times_in (pieces_of l size) t
    ≡ cond (nat_lt t (trial_count l.plan) && not (has l t)) 1 0
times_free cover l size t some =
    sym (count_trials (pieces_of l size) t) ∙ ap (count_by (λ x. x == t)) (pieces_cover cover l size some)
    ∙ grind (arith, nat_tests, count_passing (λ k. not (has l k)) 0 (trial_count l.plan) t)

-- ---- what is held

-- what is held once pieces are added: what was held, and what is in one of them
has_more : (l : Contents) (ps : List Piece) (t : ℕ) → t < trial_count l.plan → has (with_pieces l ps) t ≡ has l t
    || list_any (λ p. is_in p t) ps
has_more l [] t low = grind arith
has_more l (p ∷ ps) t low =
    grind (arith, held_at, has_more (with_piece l p) ps t low)

-- the plan stays
plan_stays : (l : Contents) (ps : List Piece) → (with_pieces l ps).plan ≡ l.plan
plan_stays l [] = refl
plan_stays l (p ∷ ps) = plan_stays (with_piece l p) ps

-- ---- the pieces

-- a trial of one of them is not in those before it
apart : SpansCover → (l : Contents) (size i : ℕ) (p : Piece) → 1 ≤ size → slice_get (pieces_of l size) i ≡ Some p
    → overlaps (with_pieces l (take i (pieces_of l size))) p ≡ false
apart cover l size i p some at =
    list_any_none_passing (has (with_pieces l prefix)) p.first p.count (λ t from to held.
    (let here = within_is p.first (p.first + p.count) t from to in
    let parts = ap (λ qs. times_in qs t) split ∙ times-append prefix (p ∷ drop (suc i) ps) t in
    let first = count_first (λ q. is_in q t) p (drop (suc i) ps) in
    let times = times_free cover l size t some in
    let some = list_any-count_by (λ q. is_in q t) prefix in
    grind (arith, nat_tests, has_more l prefix t)))
  where
    ps : List Piece
    ps = pieces_of l size

    prefix : List Piece
    prefix = take i (pieces_of l size)

    split : pieces_of l size ≡ take i (pieces_of l size) ++ p ∷ drop (suc i) (pieces_of l size)
    split = split_at (pieces_of l size) i p (slice_get_within (pieces_of l size) i p at)
        ∙ ap (λ q. take i (pieces_of l size) ++ q ∷ drop (suc i) (pieces_of l size))
        (get_or_from_slice_get (pieces_of l size) i p p at)

-- with all of them every trial is held
complete : SpansCover → (l : Contents) (size : ℕ) → 1 ≤ size → is_complete (with_pieces l (pieces_of l size)) ≡ true
complete cover l size some =
    grind (arith, plan_stays l, list_all_passing, times_free cover l size, list_any-count_by, has_more l)

pub pieces_fill : SpansCover → (l : Contents) (size : ℕ) → 1 ≤ size → AreFilling l (pieces_of l size)
pieces_fill cover l size some = search (arith, plan_stays, apart, complete)

-- ---- what can be written then

-- a ledger to which pieces were added holds the trials that pass some test
holds_some : (v : Values) (ss : List Slip) (f : ℕ → Bool) (ps : List Piece)
    → (g : ℕ → Bool) × (with_pieces (record { plan = v; base = ss; held = held_where v f }) ps
    ≡ record { plan = v; base = ss; held = held_where v g })
holds_some v ss f [] = (f, refl)
holds_some v ss f (p ∷ ps) = holds_some v ss (λ t. has (record { plan = v; base = ss; held = held_where v f }) t
    || is_in p t) ps

-- where it holds every trial, it is the one that does
filled_is : (v : Values) (ss : List Slip) (g : ℕ → Bool)
    → is_complete (record { plan = v; base = ss; held = held_where v g }) ≡ true
    → held_where v g ≡ held_where v (λ t. true)
filled_is v ss g all = map_agree g (λ t. true) 0 (trial_count v) (λ t from to.
    (let held = passes_at (has (record { plan = v; base = ss; held = held_where v g })) 0 (trial_count v) all t from to
    in grind (arith, nat_tests, held_at v g t)))

-- where every trial is held every cell is done
pub complete_is_done : (l : Contents) → is_complete l ≡ true → (c : ℕ) → c < length (cells_of l.plan) → cell_done l c
    ≡ true
complete_is_done l all c low = list_all_passing (has l) (c * l.plan.repeats) l.plan.repeats (λ t from to.
    (let within = in_plan c (length (cells_of l.plan)) l.plan.repeats t low to in
    passes_at (has l) 0 (trial_count l.plan) all t (omega arith) (omega (arith, within))))

-- the ledger that holds every trial of a plan, over these slips
abbrev filled : Values → List Slip → Contents
filled v ss = record { plan = v; base = ss; held = held_where v (λ t. true) }

all_held : (v : Values) (ss : List Slip) → is_complete (filled v ss) ≡ true
all_held v ss = list_all_passing (has (filled v ss)) 0 (trial_count v)
    (λ t from to. grind (arith, nat_tests, held_at v (λ k. true) t))

-- of which the table over the slips can be written
filled_table : (v : Values) (ss : List Slip) → available (filled v ss) ≡ table_over v ss
filled_table v ss =
    let l : Contents = filled v ss in
    let n : ℕ = length (cells_of v) in
    ap (λ ys. header (version_of v.failing) ++ ys)
    (flat_map_prefix (λ c. line_with v c (cell_sum l c)) (λ c. line_with v c (full_sum v ss c)) (cell_done l)
    (range_with_len 0 n) (λ c done. ap (λ x. line_with v c x) (done_sum l c done)))
    ∙ ap (λ cs. header (version_of v.failing) ++ flat_map (λ c. line_with v c (full_sum v ss c)) cs)
    (whole_prefix (cell_done l) (range_with_len 0 n)
    (list_all_passing (cell_done l) 0 n (λ c from to. complete_is_done l (all_held v ss) c (omega (arith, to)))))

pub filled_give : SpansCover → (v : Values) (ss : List Slip) (size : ℕ) → 1 ≤ size
    → available (with_pieces (over_base v ss) (pieces_of (over_base v ss) size)) ≡ table_over v ss
filled_give cover v ss size some =
    let found = holds_some v ss (is_in_base ss) (pieces_of (over_base v ss) size) in
    let all = rw found.1 at (complete cover (over_base v ss) size some) in
    ap available found.1 ∙ ap (λ (held : List Bool). available (record { plan = v; base = ss; held = held }))
    (filled_is v ss found.0 all) ∙ filled_table v ss

-- over true slips it is the table of the plan
pub true_give : (v : Values) (ss : List Slip) → IsPlan v → AreTrue v ss → table_over v ss ≡ table v
true_give v ss plan are =
    let l : Contents = filled v ss in
    grind (arith, held_at v, filled_table v ss, available_whole v l, all_held v ss)
