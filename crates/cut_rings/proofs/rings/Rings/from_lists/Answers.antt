use Rattle.std.proofs.Common.{◌≡◌, ◌<◌, ◌∙◌, ℕ, List, Vec, Global, map, length, sym, arith}
use Rattle.std.specs.List.{range_with_len}
use Rattle.std.proofs.lemmas.List.{length-map}
use Rattle.std.proofs.lemmas.Bool.Decides.{nat_tests}
use Rattle.cut_lists.proofs.Maps.{map-map}
use Rattle.cut_rings.specs.Listed.{listed_position}
use Rattle.cut_rings.proofs.Orders.{all_orders, some_not_order}
use Rattle.cut_rings.proofs.Sound.{many_rings, sound}
use Rattle.cut_rings.proofs.rings.Rings.from_lists.Goals as goal

pub returns-then-not-are_orders-clause-not_permutation :
    goal.returns-then-not-are_orders-clause-not_permutation
returns-then-not-are_orders-clause-not_permutation c =
    grind (arith, some_not_order)

pub listed_rings-requires-clause-each_once : goal.listed_rings-requires-clause-each_once
listed_rings-requires-clause-each_once c = all_orders c.args.n c.args.lists.now
    (sym c.are_orders.ensures ∙ c.if-not-are_orders.false)

pub returns-in_err-rings-clause-not_permutation : goal.returns-in_err-rings-clause-not_permutation
returns-in_err-rings-clause-not_permutation c =
    grind (arith, all_orders)

pub invariant_of-result : goal.invariant_of-result
invariant_of-result c =
    let table : Vec ℕ Global → List ℕ = λ list. map (λ p. listed_position list.items p) (range_with_len 0 c.args.n) in
    let many : length c.in_ok-rings.rings.items ≡ length c.args.lists.now =
    many_rings c.in_ok-rings.rings.items (map table c.args.lists.now) c.in_ok-rings.ensures.positions
    ∙ length-map c.args.lists.now table
    in
    sound _ (omega arith) (omega arith) (let some : 0 < length c.args.lists.now = grind (arith, nat_tests)
    in omega arith) (omega arith) c.in_ok-rings.ensures.inverse

pub returns-clause-layout : goal.returns-clause-layout
returns-clause-layout c =
    grind (arith, map-map)

pub returns-clause-each_once : goal.returns-clause-each_once
returns-clause-each_once c = all_orders c.args.n c.args.lists.now (sym c.are_orders.ensures ∙ c.if-not-are_orders.false)

pub returns-clause-not_permutation : goal.returns-clause-not_permutation
returns-clause-not_permutation c =
    grind (arith, all_orders)
