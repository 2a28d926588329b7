-- Gaps and their parts are pieces of the plan.
use Rattle.std.proofs.Common.{ℕ, ◌+◌, ◌*◌, ◌/◌, ◌<◌, ◌≤◌, Bool, not, All, map, length, get_or}
use Rattle.std.proofs.Common.{arith}
use Rattle.std.proofs.lemmas.List.Elements.{All-map}
use Rattle.cut_lists.proofs.FlatMaps.{All-flat_map}
use Rattle.cut_lists.proofs.Ranges.{All-range_with_len}
use Rattle.cut_sets.specs.ranges.Laws.{SpansWithin}
use Rattle.cut_sets.specs.ranges.Spans.{spans}
use Rattle.cut_ledger.proofs.Words.{Contents, IsPlan, IsTrue, Piece, Values, cells_of, div_ceil}
use Rattle.cut_ledger.proofs.Words.{gaps_of, has, is_piece, part_of, parts_of, piece_at, pieces_of, range_with_len}
use Rattle.cut_ledger.proofs.CellLemmas.{piece_facts, cell_is}

-- ---- pieces

-- what a cell's trials hold is a piece
pub piece_within : (v : Values) (p : Piece) (c : ℕ) → 0 < p.count → c < length (cells_of v) → c * v.repeats ≤ p.first
    → p.first + p.count ≤ c * v.repeats + v.repeats → IsTrue (is_piece v p)
piece_within v p c some cell starts ends =
    grind (arith, cell_is)

-- ---- gaps

pub gaps_are_pieces : SpansWithin → (l : Contents) → All (λ p. IsTrue (is_piece l.plan p)) (gaps_of l)
gaps_are_pieces within l =
    let v : Values = l.plan in
    let free : ℕ → Bool = λ t. not (has l t) in
    All-flat_map (λ p. IsTrue (is_piece v p)) (λ c. map piece_at (spans free (c * v.repeats) v.repeats))
    (range_with_len 0 (length (cells_of v)))
    (All-range_with_len (λ c. All (λ p. IsTrue (is_piece v p)) (map piece_at (spans free (c * v.repeats) v.repeats))) 0
    (length (cells_of v)) (λ c _ cell.
    All-map (λ p. IsTrue (is_piece v p)) piece_at (spans free (c * v.repeats) v.repeats) (λ k d low.
    let is = within free (c * v.repeats) v.repeats k d low in
    piece_within v (piece_at (get_or (spans free (c * v.repeats) v.repeats) k d)) c is.some (omega arith) is.starts
    is.ends)))

-- ---- parts

-- a part begins within what it is a part of
pub part_within : (size i count : ℕ) → 1 ≤ size → i < div_ceil count size → i * size < count
part_within size i count some low =
    grind arith

pub parts_are_pieces : (v : Values) (size : ℕ) (p : Piece) → IsPlan v → 1 ≤ size → IsTrue (is_piece v p)
    → All (λ q. IsTrue (is_piece v q)) (parts_of size p)
parts_are_pieces v size p plan some piece =
    let facts = piece_facts v p plan piece in
    let starts = facts.starts in
    let ends = facts.ends in
    All-map (λ q. IsTrue (is_piece v q)) (part_of size p) (range_with_len 0 (div_ceil p.count size))
    (All-range_with_len (λ i. IsTrue (is_piece v (part_of size p i))) 0 (div_ceil p.count size) (λ i _ low.
    let inside : i * size < p.count = part_within size i p.count some (omega arith) in
    piece_within v (part_of size p i) (p.first / v.repeats) (omega arith) facts.cell (omega arith) (omega arith)))

pub pieces_are_pieces : SpansWithin → (l : Contents) (size : ℕ) → IsPlan l.plan → 1 ≤ size
    → All (λ p. IsTrue (is_piece l.plan p)) (pieces_of l size)
pieces_are_pieces within l size plan some =
    search (arith, All-flat_map, parts_are_pieces, gaps_are_pieces)
