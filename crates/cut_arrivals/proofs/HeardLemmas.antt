-- Which key place a ring has among those of the edges that are left.
use Rattle.std.proofs.Common.{◌≡◌, ℕ, suc, ◌+◌, ◌-◌, ◌<◌, ◌≤◌, Bool, true, false, cond, List, [], ◌∷◌, Option}
use Rattle.std.proofs.Common.{Some, None, map, filter, length, drop, option_map, refl, ap, sym, subst, arith}
use Rattle.std.specs.Prelude.{is_some, IfSome}
use Rattle.std.specs.List.{All, range_with_len}
use Rattle.std.proofs.lemmas.Bool.{eq-eqb}
use Rattle.std.proofs.lemmas.List.Elements.{All-head, All-tail, All-map, All-filter}
use Rattle.cut_lists.proofs.Ranges.{All-range_with_len}
use Rattle.cut_rings.specs.declared.edge.Edge.{Edge}
use Rattle.cut_rings.specs.Edges.{edge_to}
use Rattle.cut_arrivals.specs.declared.candidates.key_places.KeyPlace.{KeyPlace}
use Rattle.cut_arrivals.specs.candidates.KeyPlaces.{key_of, key_in, AreKeyPlaces}
use Rattle.cut_arrivals.specs.candidates.inside.Runs.{first_on}

-- the edges to s on the rings that pass a test, from one ring on
abbrev pub edges_from : (ℕ → Bool) → ℕ → ℕ → ℕ → List Edge
edges_from p s ring n = map (λ ring. edge_to s ring) (filter p (range_with_len ring n))

-- the key place of a ring's edge, where it is there
pub record IsHeard (k : ℕ) (blocks : List ℕ) (is_there : Bool) (e : Edge) (heard : Option KeyPlace) : Type 0 where
  pub key : option_map (λ key_place. key_in blocks key_place) heard ≡ cond is_there (Some (key_of k e)) None
  pub within : IfSome heard (λ key_place. (key_place.block < length blocks) × (key_place.key < 8))

-- what is known of a ring's key place, and of the edges and the key places that are left after it
record HearsRing (k : ℕ) (p : ℕ → Bool) (s ring n : ℕ) (edges : List Edge) (key_places : List KeyPlace)
    (heard : Option KeyPlace)
    (count : ℕ) : Type 0 where
  pub is : is_some heard ≡ p ring
  pub some : count ≤ length edges
  pub rest : drop count edges ≡ edges_from p s (ring + 1) n
  pub long : length (drop count key_places) ≡ length (drop count edges)
  pub here : (blocks : List ℕ) → AreKeyPlaces k blocks edges key_places
      → IsHeard k blocks (p ring) (edge_to s ring) heard
  pub after : (blocks : List ℕ) → AreKeyPlaces k blocks edges key_places
      → AreKeyPlaces k blocks (drop count edges) (drop count key_places)

-- ---- the key places of a first edge and of others

after_first : (k : ℕ) (blocks : List ℕ) (e : Edge) (es : List Edge) (key_place : KeyPlace) (key_places : List KeyPlace)
    → AreKeyPlaces k blocks (e ∷ es) (key_place ∷ key_places) → AreKeyPlaces k blocks es key_places
after_first k blocks e es key_place key_places are = search (arith, All-tail)

at_first : (k : ℕ) (blocks : List ℕ) (e : Edge) (es : List Edge) (key_place : KeyPlace) (key_places : List KeyPlace)
    → AreKeyPlaces k blocks (e ∷ es) (key_place ∷ key_places) → IsHeard k blocks true e (Some key_place)
at_first k blocks e es key_place key_places are = grind arith

-- ---- by whether the ring's edge is there

hears_first : (k : ℕ) (p : ℕ → Bool) (s ring n : ℕ) (key_places : List KeyPlace) → p ring ≡ true
    → length key_places ≡ suc (length (edges_from p s (ring + 1) n))
    → HearsRing k p s ring n (edge_to s ring ∷ edges_from p s (ring + 1) n) key_places
    (first_on ring (edge_to s ring ∷ edges_from p s (ring + 1) n) key_places) 1
hears_first k p s ring n [] passes long = absurd (omega arith)
hears_first k p s ring n (key_place ∷ key_places) passes long =
    let es : List Edge = edges_from p s (ring + 1) n in
    let is : first_on ring (edge_to s ring ∷ es) (key_place ∷ key_places) ≡ Some key_place =
    ap (λ b. cond b (Some key_place) None) (eq-eqb ring ring refl) in
    subst (λ heard. HearsRing k p s ring n (edge_to s ring ∷ es) (key_place ∷ key_places) heard 1) (sym is) (record {
      is = sym passes;
      some = omega arith;
      rest = refl;
      long = (let e : length key_places ≡ length es = omega arith in e);
      here = λ blocks are. subst (λ b. IsHeard k blocks b (edge_to s ring) (Some key_place)) (sym passes)
          (at_first k blocks (edge_to s ring) es key_place key_places are);
      after = λ blocks are. after_first k blocks (edge_to s ring) es key_place key_places are;
    })

none_first : (ring : ℕ) (edges : List Edge) (key_places : List KeyPlace) → All (λ e. ring < e.ring) edges
    → first_on ring edges key_places ≡ None
none_first ring [] key_places up = refl
none_first ring (e ∷ es) [] up = refl
none_first ring (e ∷ es) (key_place ∷ key_places) up =
    grind (arith, All-head)

later_rings : (p : ℕ → Bool) (s ring n : ℕ) → All (λ e. ring < e.ring) (edges_from p s (ring + 1) n)
later_rings p s ring n =
    All-map (λ e. ring < e.ring) (λ ring. edge_to s ring) (filter p (range_with_len (ring + 1) n))
    (All-filter p (λ i. ring < i) (range_with_len (ring + 1) n)
    (All-range_with_len (λ i. ring < i) (ring + 1) n (λ i low high. omega arith)))

hears_none : (k : ℕ) (p : ℕ → Bool) (s ring n : ℕ) (edges : List Edge) (key_places : List KeyPlace) → p ring ≡ false
    → edges ≡ edges_from p s (ring + 1) n → length key_places ≡ length edges
    → HearsRing k p s ring n edges key_places (first_on ring edges key_places) 0
hears_none k p s ring n edges key_places fails same long =
    grind (arith, none_first, later_rings)

-- the next ring: n others are left
hears : (k : ℕ) (p : ℕ → Bool) (s ring n : ℕ) (edges : List Edge) (key_places : List KeyPlace) (heard : Option KeyPlace)
    (count : ℕ)
    → edges ≡ edges_from p s ring (suc n) → length key_places ≡ length edges
    → heard ≡ first_on ring edges key_places → count ≡ cond (is_some heard) 1 0
    → HearsRing k p s ring n edges key_places heard count
hears k p s ring n edges key_places heard count same long first counted = grind
    (arith, hears_first k p s, hears_none k p s)

-- what is known once the ring's edge and key place are taken off, if they are there
pub record HearsNext (k : ℕ) (p : ℕ → Bool) (s ring n : ℕ) (edges others : List Edge)
    (key_places other_key_places : List KeyPlace) (heard : Option KeyPlace) : Type 0 where
  pub is : is_some heard ≡ p ring
  pub rest : others ≡ edges_from p s (ring + 1) n
  pub long : length other_key_places ≡ length others
  pub here : (blocks : List ℕ) → AreKeyPlaces k blocks edges key_places
      → IsHeard k blocks (p ring) (edge_to s ring) heard
  pub after : (blocks : List ℕ) → AreKeyPlaces k blocks edges key_places → AreKeyPlaces k blocks others other_key_places

pub hears_next : (k : ℕ) (p : ℕ → Bool) (s ring n : ℕ) (edges others : List Edge)
    (key_places other_key_places : List KeyPlace)
    (heard : Option KeyPlace) (count : ℕ)
    → ring < n → edges ≡ edges_from p s ring (n - ring) → length key_places ≡ length edges
    → heard ≡ first_on ring edges key_places → count ≡ cond (is_some heard) 1 0
    → others ≡ drop count edges → other_key_places ≡ drop count key_places
    → HearsNext k p s ring (n - (ring + 1)) edges others key_places other_key_places heard
hears_next k p s ring n edges others key_places other_key_places heard count low same long first counted back
    key_places_back =
    grind (arith, hears k p s ring (n - (ring + 1)) edges key_places heard count)
