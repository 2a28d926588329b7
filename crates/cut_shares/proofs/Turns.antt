-- Shares take turns, so that each trial is in one of them.
use Rattle.std.proofs.Common.{◌≡◌, ◌∙◌, ℕ, zero, suc, ◌+◌, ◌-◌, ◌%◌, ◌<◌, ◌==◌, Bool, List, [], ◌∷◌, ◌++◌, add-one}
use Rattle.std.proofs.Common.{refl, ap, arith}
use Rattle.std.proofs.Math.Nat.{mod-eq_of_lt, add-mod_right}
use Rattle.std.proofs.lemmas.Bool.Decides.{nat_tests}
use Rattle.std.proofs.lemmas.List.Sums.{sum_by_push}
use Rattle.std.proofs.lemmas.Nat.{mod_below}
use Rattle.cut_lists.proofs.Parts.{count_first}
use Rattle.cut_lists.proofs.Ranges.{count_by_agree, range_with_len_more}
use Rattle.cut_shares.specs.share.Laws.{AreOfOne}
use Rattle.cut_shares.proofs.Counting.{count_part}
use Rattle.cut_shares.proofs.Words.{IsTrue, Share, Values, block_of, count_by, has_block, is_in_share, range_with_len}
use Rattle.cut_shares.proofs.Words.{trial_count}

-- ---- as many numbers in a row as there are remainders

-- one number further on there are as many of each remainder
turn : (n r b : ℕ) → count_by (λ k. k % n == r) (range_with_len (b + 1) n)
    ≡ count_by (λ k. k % n == r) (range_with_len b n)
turn n r b =
    let has : ℕ → Bool = λ k. k % n == r in
    let rest : List ℕ = range_with_len (b + 1) n in
    let same : has (b + n) ≡ has b = ap (λ m. m == r) (add-mod_right b n) in
    let all : b ∷ rest ≡ range_with_len b n ++ (b + n) ∷ [] = rw add-one at (range_with_len_more b n (b + n) refl) in
    grind (arith, same, ap (count_by has) all, count_first has b rest, sum_by_push)

turns : (n r b : ℕ) → r < n → count_by (λ k. k % n == r) (range_with_len b n) ≡ 1
turns n r zero low =
    count_by_agree (λ k. k % n == r) (λ k. k == r) 0 n
    (record { same = λ k from below. ap (λ m. m == r) (mod-eq_of_lt {n = k} {m = n} (omega arith)) })
    ∙ count_part (λ k. k == r) 0 n r 1 (grind (arith, nat_tests))
turns n r (suc b) low =
    grind (arith, turn n r b, turns n r b low)

pub take_turns : (s : Share) (b : ℕ) → count_by (has_block s) (range_with_len b s.shares) ≡ 1
take_turns s b =
    grind (arith, turns s.shares (s.index - 1) b)

-- ---- each trial is in one share

pub one_has : (v : Values) (a : Share) (t : ℕ) → t < trial_count v
    → (b : Share) × (AreOfOne a b × IsTrue (is_in_share b v t))
one_has v a t low =
    let block : ℕ = block_of a.block_size v t in
    let bounds = a.bounds in
    let below : block % a.shares < a.shares = mod_below block a.shares (omega arith) in (
      record { index = block % a.shares + 1; shares = a.shares; block_size = a.block_size; bounds = grind arith },
      (record { shares = refl; block_size = refl }, grind (arith, nat_tests)),
    )
