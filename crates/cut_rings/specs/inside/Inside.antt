-- How `Rings` are kept: for each ring its order, and the inverse table of the order.
use Rattle.std.specs.Prelude.{ℕ, ◌<◌, map, length, slice_index_or}
use Rattle.cut_rings.specs.declared.ring.Ring.{Ring}
use Rattle.cut_rings.specs.declared.rings.Rings.TheInside.{Inside}
use Rattle.cut_rings.specs.Layout.{Layout, IsLayout}
use Rattle.cut_rings.specs.inside.Inverse.{IsInverse}

-- the positions that the inverse tables hold
abbrev pub layout_of : Inside → Layout
layout_of r = record { nodes = r.nodes; positions = map (λ ring. ring.positions.items) r.rings.items }

pub record AreRings (r : Inside) : Type 0 where
  pub layout : IsLayout (layout_of r)
  pub inverse : (ring : ℕ) (d : Ring) → ring < length r.rings.items
      → IsInverse r.nodes (slice_index_or r.rings.items ring d).order.items
      (slice_index_or r.rings.items ring d).positions.items
