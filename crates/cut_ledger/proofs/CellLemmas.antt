-- The trials of cells: a piece that is added, the sums over a cell, and a ledger that holds none.
use Rattle.std.proofs.Common.{◌≡◌, ℕ, ◌+◌, ◌-◌, ◌*◌, ◌/◌, ◌<◌, ◌≤◌, ◌^◌, Bool, true, false, ◌&&◌, ◌||◌}
use Rattle.std.proofs.Common.{List, [], ◌++◌, length, replicate, nat_lt, sym, ap, ◌∙◌}
use Rattle.std.proofs.Common.{arith, zero-add}
use Rattle.std.proofs.lemmas.List.{get_or-replicate, get_or_past, flat_map_more, length-replicate}
use Rattle.std.proofs.lemmas.List.Sums.{count_by-le-length}
use Rattle.std.proofs.lemmas.List.FromFn.{length-range_with_len, get_or-map-range_with_len, length-map-range_with_len}
use Rattle.std.proofs.lemmas.Nat.{div-mul-add}
use Rattle.std.proofs.lemmas.Bool.Decides.{nat_tests}
use Rattle.cut_ledger.proofs.Words.{AreKept, AreOver, IsAtMost, IsPlan, IsTrue, Piece, Slip, Totals, Values}
use Rattle.cut_ledger.proofs.Words.{cells_of, each_number, flat_map, has, held_where, is_in}
use Rattle.cut_ledger.proofs.Words.{is_piece, range_with_len}
use Rattle.cut_ledger.proofs.Words.{slice_index_or, trial_count}
use Rattle.cut_lists.proofs.Ranges.{range_with_len_more}
use Rattle.cut_lists.proofs.Additions.{PassesPart}
use Rattle.cut_lists.proofs.Counts.{filter-none}
use Rattle.std.proofs.lemmas.List.Elements.{All-from_recursion}
use Rattle.cut_plan.proofs.CellFacts.{every-cells}
use Rattle.cut_outcome.specs.Outcome.{cell_at}
use Rattle.cut_sets.specs.ranges.Held as held
use Rattle.cut_ledger.specs.inside.HeldTrials.{span_of, sum_at}

-- ---- trials and their cells

pub cell_is : (r c t : ℕ) → c * r ≤ t → t < c * r + r → t / r ≡ c
cell_is r c t low high = grind (arith, div-mul-add c r (t - c * r))

pub record InCell (r t : ℕ) : Type 0 where
  pub low : t / r * r ≤ t
  pub high : t < t / r * r + r

-- what is known of a piece
pub record PieceFacts (v : Values) (p : Piece) (c : ℕ) : Type 0 where
  pub some : 0 < p.count
  pub end : p.first + p.count ≤ trial_count v
  pub cell : c < length (cells_of v)
  pub starts : c * v.repeats ≤ p.first
  pub ends : p.first + p.count ≤ c * v.repeats + v.repeats

pub piece_in_cell : (v : Values) (p : Piece) → 0 < v.repeats → IsTrue (is_piece v p)
    → PieceFacts v p (p.first / v.repeats)
piece_in_cell v p repeats piece =
    grind arith

pub piece_facts : (v : Values) (p : Piece) → IsPlan v → IsTrue (is_piece v p) → PieceFacts v p (p.first / v.repeats)
piece_facts v p plan piece = piece_in_cell v p plan.some_repeats piece

-- its cell has 32 rings at most
pub few_rings : (v : Values) (s : Slip) → IsPlan v → IsTrue (is_piece v s.piece) → (cell_at v s.piece.first).k ≤ 32
few_rings v s plan piece =
    grind (arith, piece_facts, All-from_recursion, every-cells)

pub in_piece : (p : Piece) (t : ℕ) → is_in p t ≡ true → (p.first ≤ t) × (t < p.first + p.count)
in_piece p t e = grind (arith, nat_tests)

pub piece_cell : (v : Values) (p : Piece) (c t : ℕ) → PieceFacts v p c → p.first ≤ t → t < p.first + p.count
    → t / v.repeats ≡ c
piece_cell v p c t facts from to = grind (arith, cell_is)

-- ---- what is held

-- a trial is held where it is one of the plan's and passes the test
pub held_at : (v : Values) (test : ℕ → Bool) (t : ℕ) → slice_index_or (held_where v test) t false
    ≡ nat_lt t (trial_count v) && test t
held_at v test t = grind (arith, nat_tests, get_or-map-range_with_len, get_or_past, length-map-range_with_len)

pub has_where : (v : Values) (base : List Slip) (test : ℕ → Bool) (t : ℕ) → t < trial_count v
    → has (record { plan = v; base = base; held = held_where v test }) t ≡ test t
has_where v base test t low = grind (arith, nat_tests, held_at v test t)

-- ---- a piece added to its cell

-- a test that passes the trials of a piece too
pub record IsMore (test new : ℕ → Bool) (p : Piece) : Type 0 where
  pub same : (t : ℕ) → new t ≡ (test t || is_in p t)

-- as the set's numbers do after the piece is put in
pub more_is : (old new : held.Held) (p : Piece) → p.first + p.count ≤ length old.held → new.held
    ≡ held.with_span old (span_of p) → IsMore (held.has old) (held.has new) p
more_is old new p ends put = grind (arith, get_or_past, get_or-map-range_with_len, length-map-range_with_len)

-- what passes among a cell's trials, where none of the piece's passed
pub more_part : (test new : ℕ → Bool) (v : Values) (p : Piece) (c : ℕ) → PieceFacts v p c → IsMore test new p
    → ((t : ℕ) → is_in p t ≡ true → test t ≡ false) → PassesPart test new (c * v.repeats) v.repeats p.first p.count
more_part test new v p c facts more apart = grind arith

-- and outside its cell nothing changes
pub more_elsewhere : (test new : ℕ → Bool) (v : Values) (p : Piece) (c d t : ℕ) → PieceFacts v p c → IsMore test new p
    → (d ≡ c → ⊥) → d * v.repeats ≤ t → t < d * v.repeats + v.repeats → new t ≡ test t
more_elsewhere test new v p c d t facts more other low high =
    grind (arith, cell_is v.repeats d t low high, piece_cell v p c t facts)

-- ---- sums

-- the sums of a cell leave room for those of a piece
pub sums_fit : (v : Values) (base : List Slip) (trials : held.Held) (sums : List Totals) (c : ℕ)
    → AreKept v base trials sums → c < length sums → IsAtMost (2 ^ 43) (sum_at sums c)
sums_fit v base trials sums c kept in' =
    grind (arith, count_by-le-length, length-range_with_len)

-- ---- nothing is held

pub none_over : (v : Values) (trials : held.Held) (sums : List Totals) → IsPlan v → trials.section_len ≡ v.repeats
    → trials.held ≡ replicate (trial_count v) false → length trials.room ≡ length (cells_of v) → sums
    ≡ replicate (length (cells_of v)) (each_number (λ n. 0)) → AreOver v [] trials sums
none_over v trials sums plan section_len held-is room sums-are =
    grind (arith, length-replicate, get_or-replicate, get_or_past, filter-none)

-- ---- gaps, cell by cell

pub one_cell_more : {X : Type 0} (f : ℕ → List X) (i : ℕ) → flat_map f (range_with_len 0 i) ++ f i
    ≡ flat_map f (range_with_len 0 (i + 1))
one_cell_more f i = flat_map_more f [] (range_with_len 0 i) i
    ∙ ap (flat_map f) (sym (range_with_len_more 0 i i (zero-add i)))

-- ---- a change of memory alone

pub kept_alike : (v : Values) (base : List Slip) (old new : held.Held) (sums : List Totals) → AreKept v base old sums
    → new.section_len ≡ old.section_len → new.held ≡ old.held → length new.room ≡ length old.room
    → AreKept v base new sums
kept_alike v base old new sums kept section_len same room = record {
  plan = kept.plan;
  section_len = section_len ∙ kept.section_len;
  all = ap length same ∙ kept.all;
  cells = room ∙ kept.cells;
  long = kept.long;
  each = λ c in'. rw same (kept.each c in');
  based = λ t e. rw same (kept.based t e);
}
