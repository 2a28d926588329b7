-- How many trials a share has, block by block and cell by cell.
use Rattle.std.proofs.Common.{◌≡◌, ◌∙◌, ℕ, suc, ◌+◌, ◌-◌, ◌*◌, ◌<◌, ◌≤◌, min, Bool, true, false, length, refl, subst, arith}
use Rattle.std.proofs.Math.Nat.{mul-le-mul_right}
use Rattle.std.proofs.lemmas.Bool.Decides.{nat_tests}
use Rattle.std.proofs.lemmas.Grind.{div_ceil_times}
use Rattle.std.proofs.lemmas.List.FromFn.{length-range_with_len}
use Rattle.std.proofs.lemmas.List.Sums.{sum_by-append, length-filter, count_by-le-length}
use Rattle.cut_lists.proofs.Additions.{PassesPart, count_of_more}
use Rattle.cut_lists.proofs.Ranges.{All-range_with_len, ranges-join}
use Rattle.cut_lists.proofs.Ranks.{count_by_all, count_by_none}
use Rattle.std.proofs.lemmas.Nat.{div-mul-add, mod-mul-add}
use Rattle.cut_shares.proofs.Words.{Share, Values, all_trials, block_of, cells_of, count_by, div_ceil, has_block}
use Rattle.cut_shares.proofs.Words.{if◌then◌else◌, is_in_share, range_with_len, trial_count, trials_of_share}

-- two ranges, the second of which begins where the first ends
pub count_joined : (p : ℕ → Bool) (a m n : ℕ) → count_by p (range_with_len a (m + n))
    ≡ count_by p (range_with_len a m) + count_by p (range_with_len (a + m) n)
count_joined p a m n =
    grind (arith, ranges-join a m n, sum_by-append)

pub count_at_most : (p : ℕ → Bool) (a n : ℕ) → count_by p (range_with_len a n) ≤ n
count_at_most p a n = omega (arith, count_by-le-length p (range_with_len a n), length-range_with_len a n)

-- a test that is the same at each number of a range
pub count_alike : (p : ℕ → Bool) (b : Bool) (a n : ℕ) → ((t : ℕ) → a ≤ t → t < a + n → p t ≡ b)
    → count_by p (range_with_len a n) ≡ (if b then n else 0)
count_alike p true a n same =
    count_by_all p (range_with_len a n) (All-range_with_len (λ t. p t ≡ true) a n same) ∙ length-range_with_len a n
count_alike p false a n same =
    count_by_none p (range_with_len a n) (All-range_with_len (λ t. p t ≡ false) a n same)

-- a test that m numbers of a range pass, and no other
pub count_part : (p : ℕ → Bool) (low n from m : ℕ) → PassesPart (λ t. false) p low n from m
    → count_by p (range_with_len low n) ≡ m
count_part p low n from m part =
    let none = count_alike (λ t. false) false low n (λ t _ _. refl) in
    omega (arith, none, count_of_more (λ t. false) p low n from m part)

-- trial k of block b of cell c
pub block_at : (size : ℕ) (v : Values) (c b k : ℕ) → k < size → b * size + k < v.repeats
    → block_of size v (c * v.repeats + (b * size + k)) ≡ c * div_ceil v.repeats size + b
block_at size v c b k in-block in-cell =
    grind (arith, div-mul-add, mod-mul-add)

-- a trial of a block is of a share where the block is
pub in_block : (s : Share) (v : Values) (c b t : ℕ) → c < length (cells_of v) → c * v.repeats + b * s.block_size ≤ t
    → t < c * v.repeats + b * s.block_size + s.block_size → t < c * v.repeats + v.repeats
    → is_in_share s v t ≡ has_block s (c * div_ceil v.repeats s.block_size + b)
in_block s v c b t cell from below inside =
    let k : ℕ = t - (c * v.repeats + b * s.block_size) in
    let at : c * v.repeats + (b * s.block_size + k) ≡ t = omega arith in
    let own = rw at at (block_at s.block_size v c b k (omega arith) (omega arith)) in
    let ends : suc c * v.repeats ≤ trial_count v = mul-le-mul_right v.repeats cell in
    grind (arith, nat_tests, own)

-- a count of the trials of the blocks so far, with one block more
pub block_counted : (s : Share) (v : Values) (c b : ℕ) (own : Bool) (old new : ℕ) → c < length (cells_of v)
    → b < div_ceil v.repeats s.block_size → own ≡ has_block s (c * div_ceil v.repeats s.block_size + b)
    → old ≡ count_by (is_in_share s v) (range_with_len (c * v.repeats) (min (b * s.block_size) v.repeats))
    → new ≡ old + (if own then min s.block_size (v.repeats - b * s.block_size) else 0)
    → new ≡ count_by (is_in_share s v) (range_with_len (c * v.repeats) (min ((b + 1) * s.block_size) v.repeats))
block_counted s v c b own old new cell low is before after =
    let r : ℕ = v.repeats in
    let size : ℕ = s.block_size in
    let some = s.bounds.some in
    let ceiling = div_ceil_times r size (omega arith) in
    let steps : suc b * size ≤ div_ceil r size * size = mul-le-mul_right size low in
    let starts : b * size < r = omega (arith, ceiling.1, steps) in
    let more : ℕ = min size (r - b * size) in
    let first : min (b * size) r ≡ b * size = omega arith in
    let sum : min ((b + 1) * size) r ≡ b * size + more = omega arith in
    let block = count_alike (is_in_share s v) (has_block s (c * div_ceil r size + b)) (c * r + b * size) more
    (λ t from below. in_block s v c b t cell from (omega arith) (omega arith)) in
    rw (after, before, is, sum, first, count_joined (is_in_share s v) (c * r) (b * size) more, block)

-- all cells are the plan
pub count_all : (s : Share) (v : Values) → length (trials_of_share s v)
    ≡ count_by (is_in_share s v) (range_with_len 0 (trial_count v))
count_all s v = length-filter (is_in_share s v) (all_trials v)

-- what is said of a share and a plan, said of those that are the same
pub of_same : (P : Share → Values → Type 0) {now s : Share} {w v : Values} → now ≡ s → w ≡ v → P now w → P s v
of_same P {now} {s} {w} {v} share plan is = subst (λ (x : Share). P x v) share (subst (P now) plan is)
