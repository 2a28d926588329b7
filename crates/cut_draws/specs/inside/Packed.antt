-- Deliveries in numbers of 8 bytes: the delivery in the low 18 bits, under the high 46 bits of its key.
use Rattle.std.specs.Prelude.{ℕ, ◌+◌, ◌*◌, ◌/◌, ◌%◌, ◌<◌, List, length}
use Rattle.std.specs.List.{AllAdjacentBelow}
use Rattle.std.specs.declared.cmp.Ordering.{Ordering}
use Rattle.std.specs.Ordering.{nat_cmp, ordering_then}
use Rattle.cut_rings.specs.Edges.{edge_number}
use Rattle.cut_draws.specs.Source.{Source, key_at}
use Rattle.cut_draws.specs.declared.delivery.Delivery.{Delivery}
use Rattle.cut_draws.specs.declared.packed.Keyed.{Keyed}
use Rattle.cut_draws.specs.DeliveryOrder.{delivery_place}

-- a delivery under a key
abbrev pub packed_of : ℕ → Delivery → ℕ
packed_of key x = key / 262144 * 262144 + x.copy * 65536 + (x.edge.subject * 32 + x.edge.ring)

-- the delivery that a number holds
abbrev pub delivery_in : ℕ → Delivery
delivery_in w = record { edge = record { ring = w % 32; subject = w / 32 % 2048 }; copy = w / 65536 % 4 }

-- a delivery under its key at a receiver
abbrev pub packed_at : Source → ℕ → ℕ → Delivery → ℕ
packed_at d receiver k x = packed_of (key_at d (delivery_place receiver k x)) x

-- the part of each key that is packed is less than the next
abbrev pub ArePackedRising : List ℕ → Type 0
ArePackedRising ws = AllAdjacentBelow (λ v w. v / 262144 < w / 262144) ws (length ws)

-- a packed delivery with what deliveries are ordered by
abbrev pub keyed_at : Source → ℕ → ℕ → ℕ → Keyed
keyed_at d receiver k w = record {
  key = key_at d (delivery_place receiver k (delivery_in w));
  number = edge_number k (delivery_in w).edge;
  copy = (delivery_in w).copy;
  packed = w;
}

-- how two of these compare: by key, then by edge number, then by copy
abbrev pub compare_keyed : Keyed → Keyed → Ordering
compare_keyed a b =
    ordering_then (nat_cmp a.key b.key) (ordering_then (nat_cmp a.number b.number) (nat_cmp a.copy b.copy))
