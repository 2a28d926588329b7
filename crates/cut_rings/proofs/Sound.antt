-- Rings that are kept as orders and their inverses are a layout.
use Rattle.std.proofs.Common.{◌≡◌, ℕ, ◌<◌, ◌≤◌, List, [], ◌∷◌, ◌++◌, map, length, get_or, ap, sym, ◌∙◌, arith}
use Rattle.std.specs.List.{All}
use Rattle.std.proofs.lemmas.List.{length-map, get_or-map, map-append}
use Rattle.cut_rings.specs.declared.ring.Ring.{Ring}
use Rattle.cut_rings.specs.declared.rings.Rings.TheInside.{Inside}
use Rattle.cut_rings.specs.Layout.{positions_on}
use Rattle.cut_rings.specs.inside.Inverse.{IsInverse}
use Rattle.cut_rings.specs.inside.Inside.{layout_of, AreRings}

-- every ring's table is the inverse of its order
abbrev pub AreInverse : Inside → Type 0
AreInverse r = All (λ ring. IsInverse r.nodes ring.order.items ring.positions.items) r.rings.items

-- the ring at k, whatever stands past the end
on_ring : (r : Inside) → AreInverse r → (k : ℕ) → k < length r.rings.items → (d : Ring)
    → (positions_on (layout_of r) k ≡ (get_or r.rings.items k d).positions.items)
    × IsInverse r.nodes (get_or r.rings.items k d).order.items (get_or r.rings.items k d).positions.items
on_ring r inverse k within d = grind (arith, get_or-map)

-- a table that is an order's inverse has each position once
record IsTable (n : ℕ) (positions : List ℕ) : Type 0 where
  long : length positions ≡ n
  in_range : (p : ℕ) → p < n → get_or positions p 0 < n
  distinct : (p q : ℕ) → p < n → q < n → get_or positions p 0 ≡ get_or positions q 0 → p ≡ q

table : (n : ℕ) (order positions : List ℕ) → IsInverse n order positions → IsTable n positions
table n order positions inverse = grind arith

first : {X : Type 0} (xs : List X) → 0 < length xs → X
first [] some = absurd (omega arith)
first (x ∷ xs) some = x

tables : (r : Inside) → AreInverse r → (k : ℕ) → k < length (layout_of r).positions
    → IsTable r.nodes (positions_on (layout_of r) k)
tables r inverse k within =
    let many : length (layout_of r).positions ≡ length r.rings.items = length-map r.rings.items
    (λ ring. ring.positions.items) in
    let d : Ring = first r.rings.items (omega arith) in
    let at : (positions_on (layout_of r) k ≡ (get_or r.rings.items k d).positions.items)
    × IsInverse r.nodes (get_or r.rings.items k d).order.items (get_or r.rings.items k d).positions.items
    = on_ring r inverse k (omega arith) d
    in
    grind arith

pub sound : (r : Inside) → 2 ≤ r.nodes → r.nodes ≤ 2048 → 0 < length r.rings.items → length r.rings.items ≤ 32
    → AreInverse r → AreRings r
sound r some_nodes few_nodes some few inverse =
    let many : length (layout_of r).positions ≡ length r.rings.items = length-map r.rings.items
    (λ ring. ring.positions.items) in
    grind (arith, tables r inverse)

-- one more ring
pub positions_pushed : (rings more : List Ring) (ring : Ring) (tables : List (List ℕ)) (table : List ℕ) → more ≡ rings
    ++ ring ∷ [] → ring.positions.items ≡ table → map (λ r. r.positions.items) rings ≡ tables
    → map (λ r. r.positions.items) more ≡ tables ++ table ∷ []
positions_pushed rings more ring tables table is here before =
    grind (arith, map-append)

pub many_rings : (rings : List Ring) (tables : List (List ℕ)) → map (λ r. r.positions.items) rings ≡ tables
    → length rings ≡ length tables
many_rings rings tables same = sym (length-map rings (λ r. r.positions.items)) ∙ ap length same
