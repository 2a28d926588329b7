-- Who stands beside whom on a ring that is kept as an order and its inverse.
use Rattle.std.proofs.Common.{◌≡◌, ℕ, ◌+◌, ◌%◌, ◌<◌, ◌≢◌, ◌⊎◌, ◌==◌, Bool, true, List, map, length, get_or}
use Rattle.std.proofs.Common.{slice_index_or, ap, sym, ◌∙◌, inl, inr, arith}
use Rattle.std.proofs.Math.Nat.{mod-eq_of_lt, mod_self}
use Rattle.std.specs.List.{position_or_len, range_with_len}
use Rattle.std.proofs.lemmas.List.FromFn.{fill_by_all}
use Rattle.cut_rings.specs.Listed.{listed_position}
use Rattle.std.proofs.lemmas.Bool.{eq-eqb, eqb-true}
use Rattle.std.proofs.lemmas.List.{get_or-map, get_or_default}
use Rattle.std.proofs.Math.ListN.{length-map}
use Rattle.std.proofs.lemmas.List.Sums.{position_or_len_is}
use Rattle.cut_rings.specs.declared.ring.Ring.{Ring}
use Rattle.cut_rings.specs.declared.rings.Rings.TheInside.{Inside}
use Rattle.cut_rings.specs.Layout.{Layout, IsLayout, position_of, Observes, observer_of, subject_of}
use Rattle.cut_rings.specs.inside.Inverse.{IsInverse}
use Rattle.cut_rings.specs.inside.Inside.{layout_of, AreRings}
use Rattle.cut_lists.proofs.Rounds.{next_one}

-- the first place at which a test passes that it alone passes
found_at : (test : ℕ → Bool) (xs : List ℕ) (i : ℕ) → i < length xs → test (get_or xs i 0) ≡ true
    → ((j : ℕ) → j < length xs → test (get_or xs j 0) ≡ true → j ≡ i) → position_or_len test xs ≡ i
found_at test xs i within passes only =
    grind (arith, position_or_len_is)

-- the place of each process is its index in the order
pub listed_positions : (n : ℕ) (order positions : List ℕ) → IsInverse n order positions → positions
    ≡ map (λ p. listed_position order p) (range_with_len 0 n)
listed_positions n order positions h =
    let many : length order ≡ n = h.order_length in
    fill_by_all (λ p. listed_position order p) positions n 0 h.positions_length (λ p below.
    let place : get_or positions p 0 < n = h.position p below in
    sym (found_at (λ q. q == p) order (get_or positions p 0) (omega arith) (eq-eqb _ p (h.found p below)) (λ j low same.
    sym (h.placed j (omega arith)) ∙ ap (λ q. get_or positions q 0) (eqb-true _ p same))))

-- place b comes just after place a, round n places
abbrev pub IsNext : ℕ → ℕ → ℕ → Type 0
IsNext n a b = ((a + 1 ≡ n) × (b ≡ 0)) ⊎ ((a + 1 ≢ n) × (b ≡ a + 1))

pub next_place : (n a b : ℕ) → a < n → IsNext n a b → (a + 1) % n ≡ b
next_place n a b low (inl e) = rw e.0 (mod_self n ∙ sym e.1)
next_place n a b low (inr e) = mod-eq_of_lt (omega arith) ∙ sym e.1

-- o observes s, so each is the one that the look-up of the other gives
pub record AreNeighbours (l : Layout) (ring o s : ℕ) : Type 0 where
  pub observer : o ≡ observer_of l ring s
  pub subject : s ≡ subject_of l ring o
  pub observes : Observes l ring o s
  pub observer_in : o < l.nodes
  pub subject_in : s < l.nodes

neighbours : (l : Layout) → IsLayout l → (ring o s : ℕ) → ring < length l.positions → o < l.nodes → s < l.nodes
    → Observes l ring o s → AreNeighbours l ring o s
neighbours l is ring o s ring_in o_in s_in observes =
    grind (arith, found_at, next_one, eqb-true)

-- what the two look-ups read: the place of p, and the process x at place q
pub record IsRead (l : Layout) (ring p place q x : ℕ) : Type 0 where
  pub place_in : place < l.nodes
  pub placed : position_of l ring p ≡ place
  pub found : q < l.nodes → (position_of l ring x ≡ q) × (x < l.nodes)

pub read : (r : Inside) → AreRings r → (l : Layout) → layout_of r ≡ l → (ring : ℕ) (kept : Ring) (p place q x : ℕ)
    → ring < length l.positions → p < l.nodes → kept ≡ slice_index_or r.rings.items ring kept → place
    ≡ get_or kept.positions.items p place → x ≡ get_or kept.order.items q x → IsRead l ring p place q x
read r sound l seen ring kept p place q x ring_in p_in kept_read place_read x_read =
    grind (arith, get_or_default, length-map, get_or-map)

-- the process at the place before that of s, and the one at the place after that of o
pub observer_read : (l : Layout) → IsLayout l → (ring s place before o : ℕ) → ring < length l.positions → s < l.nodes
    → IsRead l ring s place before o → IsNext l.nodes before place → AreNeighbours l ring o s
observer_read l is ring s place before o ring_in s_in is_read next =
    grind (arith, neighbours l is ring o s ring_in, next_place l.nodes before place)

pub subject_read : (l : Layout) → IsLayout l → (ring o place after s : ℕ) → ring < length l.positions → o < l.nodes
    → IsRead l ring o place after s → IsNext l.nodes place after → AreNeighbours l ring o s
subject_read l is ring o place after s ring_in o_in is_read next =
    grind (arith, neighbours l is ring o s ring_in o_in, next_place l.nodes place after is_read.place_in next)
