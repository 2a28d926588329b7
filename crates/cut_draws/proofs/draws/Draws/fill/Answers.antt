-- The numbers are those of all deliveries, and the list that is left is sorted.
use Rattle.std.proofs.Common.{◌≡◌, ◌∙◌, ℕ, true, List, All, map, ap, sym, subst}
use Rattle.std.specs.List.Sorted.{IsPermutation, IsSorted}
use Rattle.cut_draws.specs.declared.delivery.Delivery.{Delivery}
use Rattle.cut_draws.specs.declared.delivery_order.Arrivals.{Arrivals}
use Rattle.cut_draws.specs.Source.{Source, key_at}
use Rattle.cut_rings.specs.Edges.{is_edge_of}
use Rattle.cut_draws.specs.DeliveryOrder.{delivery_place, all_deliveries, IsDeliveryOrder}
use Rattle.cut_draws.specs.inside.Packed.{delivery_in, packed_at, keyed_at, ArePackedRising}
use Rattle.cut_draws.proofs.Apart.{compare_by}
use Rattle.cut_draws.proofs.Unpacked.{IsPacked, packed_edges, packed_moved, rising_sorted, keyed_by, keyed_sorted}
use Rattle.cut_draws.proofs.Unpacked.{keyed_packed}
use Rattle.cut_draws.proofs.Delivered.{delivered, ordered}
use Rattle.cut_draws.proofs.draws.Draws.fill.Goals as goal

abbrev key : Source → Arrivals → Delivery → ℕ
key d sent x = key_at d (delivery_place sent.receiver sent.k x)

abbrev Packed : Source → Arrivals → List ℕ → Type 0
Packed d sent words = IsPacked (key d sent) sent.k sent.edges.now sent.copies words

packed : (d : Source) (sent : Arrivals) (old words : List ℕ) → old
    ≡ map (λ x. packed_at d sent.receiver sent.k x) (all_deliveries sent.edges.now sent.copies)
    → IsPermutation old words → Packed d sent words
packed d sent old words keys moved =
    record {
      moved = subst (λ xs. IsPermutation xs words) keys moved;
      few_rings = sent.few_rings;
      few_copies =
          sent.few_copies;
      within = sent.in_range;
    }

in_order : (d : Source) (sent : Arrivals) (words : List ℕ) → Packed d sent words
    → IsSorted (compare_by (key d sent) sent.k) (map delivery_in words)
    → IsDeliveryOrder d sent.receiver sent.k sent.edges.now sent.copies (map delivery_in words)
in_order d sent words is up =
    ordered d sent.receiver sent.k sent.edges.now sent.copies (map delivery_in words)
    (delivered (key d sent) sent.k sent.edges.now sent.copies sent.distinct (map delivery_in words)
    (packed_moved (key d sent) sent.k sent.edges.now sent.copies words is) up)

pub returns-then-keys_rise-clause-order : goal.returns-then-keys_rise-clause-order
returns-then-keys_rise-clause-order c =
    let d = c.args.self.now in
    let sent = c.args.arrivals in
    let words = c.sort_unstable.new.self.items in
    let is = packed d sent c.pack.new.packed.items words c.in_ok-pack.ensures.keys c.sort_unstable.ensures.permutation
    in
    in_order d sent words is (rising_sorted (key d sent) sent.k sent.edges.now sent.copies words is
    (subst ArePackedRising c.as_slice.ensures.value (c.keys_rise.ensures c.if-keys_rise.true)))

pub draw_again-requires : goal.draw_again-requires
draw_again-requires c =
    let d = c.args.self.now in
    let sent = c.args.arrivals in
    let words = c.sort_unstable.new.self.items in
    let is = packed d sent c.pack.new.packed.items words c.in_ok-pack.ensures.keys c.sort_unstable.ensures.permutation
    in
    subst (All (λ w. is_edge_of sent.k 2048 (delivery_in w).edge ≡ true)) (sym c.as_slice-2.ensures.value)
    (packed_edges (key d sent) sent.k sent.edges.now sent.copies words is)

pub returns-clause-order : goal.returns-clause-order
returns-clause-order c =
    let d = c.args.self.now in
    let sent = c.args.arrivals in
    let words = c.sort_unstable.new.self.items in
    let keyed = c.sort_keyed.new.keyed.items in
    let is = packed d sent c.pack.new.packed.items words c.in_ok-pack.ensures.keys c.sort_unstable.ensures.permutation
    in
    let drawn : c.draw_again.new.keyed.items ≡ map (keyed_by (key d sent) sent.k) words =
    c.in_ok-draw_again.ensures.keys
    ∙ ap (λ x. map (keyed_at x sent.receiver sent.k) c.as_slice-2.result.now) c.pack.ensures.same
    ∙ ap (map (keyed_at d sent.receiver sent.k)) c.as_slice-2.ensures.value
    in
    let moved = subst (λ xs. IsPermutation xs keyed) drawn c.sort_keyed.ensures.permutation in
    let left : map (λ x. x.packed) keyed ≡ c.repack.new.packed.items =
    sym (c.in_ok-repack.ensures ∙ ap (map (λ x. x.packed)) c.as_slice-3.ensures.value)
    in
    subst (λ xs. IsDeliveryOrder d sent.receiver sent.k sent.edges.now sent.copies (map delivery_in xs)) left
    (in_order d sent (map (λ x. x.packed) keyed) (keyed_packed (key d sent) sent.k sent.edges.now sent.copies words
    keyed is moved)
    (keyed_sorted (key d sent) sent.k words keyed moved c.sort_keyed.ensures.sorted))
