-- Processes in numbers, sorted.
use Rattle.std.proofs.Common.{◌≡◌, ◌∙◌, ℕ, ◌/◌, ◌<◌, ◌≤◌, Bool, true, false, nat_lt, List, map, get_or}
use Rattle.std.proofs.Common.{ap, sym, subst, arith}
use Rattle.std.specs.Ordering.{nat_cmp}
use Rattle.std.specs.Bool.{IsTrue}
use Rattle.std.specs.List.{All, range_with_len, IsAllAdjacentAnswer}
use Rattle.std.specs.List.Sorted.{IsPermutation, IsSorted}
use Rattle.std.proofs.lemmas.Bool.{ltb-true}
use Rattle.std.proofs.lemmas.List.Elements.{All-map}
use Rattle.std.proofs.lemmas.List.Sorted.{IsPermutation-map, All-permutation}
use Rattle.cut_lists.proofs.Maps.{map-map, maps_agree}
use Rattle.cut_lists.proofs.Orders.{range_is_below}
use Rattle.cut_lists.proofs.Keyed.{keyed, pair_cmp}
use Rattle.cut_draws.specs.Source.{Source, key_at}
use Rattle.cut_draws.specs.ProcessOrder.{process_place, IsProcessOrder}
use Rattle.cut_draws.specs.inside.PackedProcesses.{packed_process, process_in, AreProcessesRising}
use Rattle.cut_draws.proofs.Processes.{ordered_processes}
use Rattle.cut_draws.proofs.Unpacked.{sorted-map, nat_cmp-greater}

abbrev key : Source → ℕ → ℕ
key d p = key_at d (process_place p)

abbrev pack : Source → ℕ → ℕ
pack d p = packed_process (key d p) p

-- the process that a number holds, with its key before it
abbrev pair : Source → ℕ → ℕ × ℕ
pair d w = (key d (process_in w), process_in w)

unpacked : (d : Source) (p : ℕ) → p < 65536 → process_in (pack d p) ≡ p
unpacked d p small = omega arith

-- a number whose high bits are those of its process's key
abbrev IsOwn : Source → ℕ → Type 0
IsOwn d w = w / 65536 ≡ key d (process_in w) / 65536

packs_own : (d : Source) (n : ℕ) → n ≤ 65536 → All (λ p. IsOwn d (pack d p)) (range_with_len 0 n)
packs_own d n few = λ i p within.
    let q : ℕ = get_or (range_with_len 0 n) i p in
    let low : q < n = range_is_below n i p within in
    let high : pack d q / 65536 ≡ key d q / 65536 = omega arith in
    high ∙ ap (λ x. key d x / 65536) (sym (unpacked d q (omega arith)))

pairs_are : (d : Source) (n : ℕ) → n ≤ 65536 → map (pair d) (map (pack d) (range_with_len 0 n)) ≡ keyed (key d) n
pairs_are d n few =
    map-map (pack d) (pair d) (range_with_len 0 n)
    ∙ maps_agree (λ p. pair d (pack d p)) (λ p. (key d p, p)) (range_with_len 0 n) (λ i p within.
    ap (λ x. (key d x, x)) (unpacked d (get_or (range_with_len 0 n) i p) (omega (arith, range_is_below n i p within, few))))

-- where the packed parts of the keys rise, the processes are in order
pub rising_processes : (d : Source) (n : ℕ) (words : List ℕ) → n ≤ 65536
    → IsPermutation (map (pack d) (range_with_len 0 n)) words → AreProcessesRising words
    → IsProcessOrder d n (map process_in words)
rising_processes d n words few moved rises =
    let own : All (IsOwn d) words = All-permutation (IsOwn d) (map (pack d) (range_with_len 0 n)) words moved
    (All-map (IsOwn d) (pack d) (range_with_len 0 n) (packs_own d n few)) in
    let up : IsSorted (pair_cmp nat_cmp) (map (pair d) words) =
    grind (arith, sorted-map (pair_cmp nat_cmp) (pair d) words, own, nat_cmp-greater)
    in
    subst (IsProcessOrder d n) (map-map (pair d) (λ x. x.1) words)
    (ordered_processes d n (map (pair d) words) (subst (λ xs. IsPermutation xs (map (pair d) words)) (pairs_are d n few)
    (IsPermutation-map (pair d) (map (pack d) (range_with_len 0 n)) words moved)) up)

-- what a test of all neighbours says
pub rising : (words : List ℕ) (r : Bool) → IsAllAdjacentAnswer (λ v w b. b ≡ nat_lt (v / 65536) (w / 65536)) words r
    → IsTrue r → AreProcessesRising words
rising words true all passed = λ i w within. ltb-true _ _ (sym (all i w within))
rising words false some passed = cc
