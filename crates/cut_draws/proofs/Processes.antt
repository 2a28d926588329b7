-- The processes of a trial, sorted.
use Rattle.std.proofs.Common.{◌≡◌, ℕ, ◌<◌, List, map, get_or, ap, sym, ◌∙◌, arith}
use Rattle.std.specs.List.{Contains}
use Rattle.std.specs.List.Sorted.{IsPermutation, IsSorted}
use Rattle.std.specs.Ordering.{nat_cmp}
use Rattle.std.proofs.lemmas.Cmp.{nat_cmp_total}
use Rattle.std.proofs.lemmas.List.{get_or_default}
use Rattle.cut_lists.specs.Ranked.{IsRanked}
use Rattle.cut_lists.proofs.Orders.{length-order, order_is_below, order_has}
use Rattle.cut_lists.proofs.Keyed.{keyed, pair_cmp, ranked}
use Rattle.cut_draws.specs.Source.{Source, key_at}
use Rattle.cut_draws.specs.ProcessOrder.{process_place, process_rank, compare_processes, IsProcessOrder}

process_found : (d : Source) (n : ℕ) (order : List ℕ) → IsRanked (compare_processes d) n order → (p : ℕ) → p < n
    → (process_rank d n p < n) × (get_or order (process_rank d n p) 0 ≡ p)
process_found d n order is p below =
    let has : Contains order p = order_has n order is.each_once p below in
    let at : get_or order has.0 0 ≡ p = get_or_default order has.0 0 p has.1 ∙ has.2 in
    let rank : process_rank d n p ≡ has.0 = ap (process_rank d n) (sym at) ∙ is.ranks has.0 has.1 in
    search (arith, length-order)

-- sorted by key and number, they are in order of their ranks
pub ordered_processes : (d : Source) (n : ℕ) (sorted : List (ℕ × ℕ))
    → IsPermutation (keyed (λ p. key_at d (process_place p)) n) sorted → IsSorted (pair_cmp nat_cmp) sorted
    → IsProcessOrder d n (map (λ x. x.1) sorted)
ordered_processes d n sorted moved up =
    let order : List ℕ = map (λ x. x.1) sorted in
    let is : IsRanked (compare_processes d) n order = ranked nat_cmp nat_cmp_total (λ p. key_at d (process_place p)) n
    sorted moved up in
    search (arith, process_found, length-order, order_is_below)
