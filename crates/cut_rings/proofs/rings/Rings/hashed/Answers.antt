use Rattle.std.proofs.Common.{◌≡◌, ◌≤◌, ◌∙◌, ℕ, List, map, length, sym, arith}
use Rattle.std.specs.List.{range_with_len}
use Rattle.std.proofs.lemmas.List.FromFn.{map-range_with_len_more, length-map-range_with_len}
use Rattle.std.proofs.lemmas.List.Elements.{All-same, All-push}
use Rattle.cut_rings.specs.declared.ring.Ring.{Ring}
use Rattle.cut_rings.specs.Hashed.{hashed_position, hashed_layout}
use Rattle.cut_rings.specs.Layout.{Layout}
use Rattle.cut_plan.specs.Cells.{largest}
use Rattle.cut_plan.specs.Plan.{IsPlan}
use Rattle.cut_rings.specs.inside.Inverse.{IsInverse}
use Rattle.cut_rings.proofs.Sound.{positions_pushed, many_rings, sound}
use Rattle.cut_rings.proofs.rings.Rings.hashed.Goals as goal

abbrev record_of : ℕ → List (List ℕ) → Layout
record_of n positions = record { nodes = n; positions = positions }

same_layout : (s t : List ℕ) (n m k count : ℕ) (positions : List (List ℕ)) → positions
    ≡ map (λ k. map (λ p. hashed_position s n k p) (range_with_len 0 n)) (range_with_len 0 k) → s ≡ t → n ≡ m → k
    ≡ count → record_of n positions ≡ hashed_layout t m count
same_layout s t n m k count positions same seed nodes end =
    grind arith

pub loop-ring-preserved : goal.loop-ring-preserved
loop-ring-preserved c =
    let n = c.nodes-nodes.result in
    let table : ℕ → List ℕ = λ k. map (λ p. hashed_position c.seed-seed.result n k p) (range_with_len 0 n) in
    let P : Ring → Type 0 = λ r. IsInverse n r.order.items r.positions.items in
    record {
      positions =
          positions_pushed c.loop-ring.rings.items c.push.new.self.items c.in_ok-hashed_ring.field-0
          (map table (range_with_len 0 c.loop-ring.ring)) (table c.loop-ring.ring)
          c.in_ok-push.ensures.items c.in_ok-hashed_ring.ensures.positions c.loop-ring.invariant.positions
          ∙ sym (map-range_with_len_more table 0 c.loop-ring.ring c.loop-ring.ring (omega arith));
      inverse = All-same P _ _ c.in_ok-push.ensures.items
          (All-push P _ _ c.loop-ring.invariant.inverse c.in_ok-hashed_ring.ensures.inverse);
    }

pub invariant_of-result : goal.invariant_of-result
invariant_of-result c =
    let plan : IsPlan c.args.plan.now = c.nodes-nodes.ensures.plan in
    let nodes : c.nodes-nodes.result ≡ c.args.plan.now.nodes = c.nodes-nodes.ensures.value in
    let count : c.ring_count-count.result ≡ largest c.args.plan.now.k = c.ring_count-count.ensures.value in
    let n = c.nodes-nodes.result in
    let table : ℕ → List ℕ = λ k. map (λ p. hashed_position c.seed-seed.result n k p) (range_with_len 0 n) in
    let many : length c.loop-ring.rings.items ≡ c.loop-ring.ring = many_rings c.loop-ring.rings.items
    (map table (range_with_len 0 c.loop-ring.ring)) c.loop-ring.invariant.positions
    ∙ length-map-range_with_len table 0 c.loop-ring.ring in
    let most : largest c.args.plan.now.k ≤ 32 = plan.most_rings in
    let some : 1 ≤ largest c.args.plan.now.k = plan.some_ring in
    let some_nodes : 2 ≤ c.args.plan.now.nodes = plan.some_nodes in
    let few_nodes : c.args.plan.now.nodes ≤ 2048 = plan.few_nodes in
    sound _ (omega arith) (omega arith) (omega arith) (omega arith) c.loop-ring.invariant.inverse

pub returns : goal.returns
returns c =
    grind (
      arith,
      same_layout c.seed-seed.result c.args.plan.now.seed c.nodes-nodes.result c.args.plan.now.nodes
          c.loop-ring.ring (largest c.args.plan.now.k),
    )
