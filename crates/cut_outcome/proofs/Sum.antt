-- Sums over trials: one trial more, parts, and what the sums over trials of one cell can be.
use Rattle.std.proofs.Common.{◌≡◌, ℕ, ◌+◌, ◌-◌, ◌*◌, ◌≤◌, List, [], ◌∷◌, ◌++◌, length, sym, ap, ◌∙◌, arith}
use Rattle.std.proofs.Common.{suc-mul, mul-zero, mul-add}
use Rattle.cut_outcome.proofs.Words.{All, IsTrue, range_with_len, Cell, Values, IsPlan, Piece, Totals, cell_at, outcome}
use Rattle.cut_outcome.proofs.Words.{each_number, plus, sum_of, is_piece, IsAtMost, AreByVotes, ArePossible, quorum_of}
use Rattle.std.proofs.lemmas.List.Elements.{All-head, All-tail}
use Rattle.std.proofs.lemmas.List.FromFn.{length-range_with_len}
use Rattle.std.proofs.lemmas.List.Sums.{sum_by_push, sum_by-append, sum_by-cons}
use Rattle.std.proofs.lemmas.Nat.{mul-le}
use Rattle.cut_lists.proofs.Ranges.{range_with_len_more, ranges-join, All-range_with_len}
use Rattle.cut_outcome.proofs.Outcomes.{by_votes, possible_outcome}
use Rattle.cut_outcome.proofs.Pieces.{piece_facts}
use Rattle.cut_outcome.proofs.Places.{settled_few, settled_more}
use Rattle.cut_plan.specs.Failing.{version_of}

same_numbers : (f g : (Totals → ℕ) → ℕ) → ((x : Totals → ℕ) → f x ≡ g x) → each_number f ≡ each_number g
same_numbers f g same = ap (λ (h : (Totals → ℕ) → ℕ). each_number h) (λ i x. same x i)

-- one trial more
pub sum_more : (v : Values) (first n t : ℕ) → first + n ≡ t
    → sum_of v (range_with_len first (n + 1)) ≡ plus (sum_of v (range_with_len first n)) (outcome v t)
sum_more v first n t e =
    grind (arith, range_with_len_more first n t e, sum_by_push)

pub sums_add_up : (v : Values) (xs ys : List ℕ) → sum_of v (xs ++ ys) ≡ plus (sum_of v xs) (sum_of v ys)
sums_add_up v xs ys = same_numbers _ _ (λ x. sum_by-append (λ t. x (outcome v t)) xs ys)

pub parts_add_up : (v : Values) (first m n : ℕ)
    → sum_of v (range_with_len first (m + n)) ≡ plus (sum_of v (range_with_len first m))
    (sum_of v (range_with_len (first + m) n))
parts_add_up v first m n = ap (λ ts. sum_of v ts) (sym (ranges-join first m n))
    ∙ sums_add_up v (range_with_len first m) (range_with_len (first + m) n)

-- ---- what the sums can be

pub trials_possible : (v : Values) (c : Cell) (ts : List ℕ) → All (λ t. cell_at v t ≡ c) ts
    → ArePossible v c (length ts) (sum_of v ts)
trials_possible v c [] same = grind arith
trials_possible v c (t ∷ ts) same =
    let here : cell_at v t ≡ c = All-head (λ s. cell_at v s ≡ c) t ts same in
    let one = rw here at (possible_outcome v t) in
    let rest = trials_possible v c ts (All-tail (λ s. cell_at v s ≡ c) t ts same) in
    let here_counted = one.counted in
    let rest_counted = rest.counted in
    let first : sum_of v (t ∷ ts) ≡ plus (outcome v t) (sum_of v ts) =
    same_numbers _ _ (λ x. sum_by-cons (λ s. x (outcome v s)) t ts) in
    rw first (record {
      counted = record {
        receivers = omega (arith, suc-mul (length ts) (v.nodes - c.f));
        conflicts = omega arith;
        extra = omega arith;
        votes = omega arith;
        decided = omega arith;
        right = omega arith;
      };
      settled = settled_more (version_of v.failing) _ _ _ _ _ _ (omega arith) one.settled rest.settled;
    })

pub sums_by_votes : (v : Values) (ts : List ℕ) → AreByVotes v (sum_of v ts)
sums_by_votes v [] = record { votes = omega arith; decided = rw (mul-zero (quorum_of v.nodes)) (omega arith) }
sums_by_votes v (t ∷ ts) =
    let one = by_votes v t in
    let rest = sums_by_votes v ts in
    let first : sum_of v (t ∷ ts) ≡ plus (outcome v t) (sum_of v ts) =
    same_numbers _ _ (λ x. sum_by-cons (λ s. x (outcome v s)) t ts) in
    let quorums = mul-add (quorum_of v.nodes) (outcome v t).decided (sum_of v ts).decided in
    rw first (record {
      votes = omega (arith, one.votes, rest.votes);
      decided = omega (arith, one.decided, rest.decided, quorums);
    })

-- those over the first trials of a piece, which are all of one cell
pub first_possible : (v : Values) (p : Piece) (n : ℕ) → IsTrue (is_piece v p) → n ≤ p.count
    → ArePossible v (cell_at v p.first) n (sum_of v (range_with_len p.first n))
first_possible v p n piece within =
    let same = All-range_with_len (λ t. cell_at v t ≡ cell_at v p.first) p.first n
    (λ t from below. (piece_facts v p piece).cell t from (omega arith)) in
    rw (length-range_with_len p.first n)
    at (trials_possible v (cell_at v p.first) (range_with_len p.first n) same)

-- no more deliveries come to a receiver than 2048 processes have edges on 32 rings, in four copies
few_deliveries : (v : Values) (c : Cell) → IsPlan v → c.k ≤ 32 → v.nodes * c.k * v.copies ≤ 262144
few_deliveries v c plan rings =
    mul-le (v.nodes * c.k) v.copies 65536 4 (mul-le v.nodes c.k 2048 32 plan.few_nodes rings) plan.few_copies

-- the numbers of possible sums are at most 2048 for each trial, and the deliveries of as many receivers
pub few_in : (v : Values) (c : Cell) (n m : ℕ) (x : Totals) → IsPlan v → c.k ≤ 32 → ArePossible v c n x
    → 2048 * n ≤ m → IsAtMost m x
few_in v c n m x plan rings possible within =
    let each : ℕ = v.nodes - c.f in
    let counted = possible.counted in
    let low : each ≤ 2048 = omega (arith, plan.few_nodes) in
    let most : n * each ≤ n * 2048 = mul-le n each n 2048 (omega arith) low in
    record {
      receivers = omega arith;
      conflicts = omega arith;
      silent = omega arith;
      extra = omega arith;
      votes = omega arith;
      decided = omega arith;
      right = omega arith;
      settled = settled_few (version_of v.failing) (x.receivers - x.silent) (v.nodes * c.k * v.copies) m 262144
          x.settled possible.settled (omega arith) (few_deliveries v c plan rings);
    }
