-- Key places stay right where blocks are added.
use Rattle.std.proofs.Common.{ℕ, ◌+◌, ◌<◌, List, [], ◌∷◌, ◌++◌, length, arith}
use Rattle.std.proofs.lemmas.List.{map-append}
use Rattle.std.proofs.lemmas.List.Elements.{All-push}
use Rattle.cut_rings.specs.declared.edge.Edge.{Edge}
use Rattle.cut_rings.specs.Edges.{edge_number}
use Rattle.cut_arrivals.specs.declared.candidates.key_places.KeyPlace.{KeyPlace}
use Rattle.cut_arrivals.specs.candidates.KeyPlaces.{AreKeyPlaces, BeginsWith}
use Rattle.cut_arrivals.specs.candidates.inside.KeyPlaces.{IsKeyPlace, Extends}
use Rattle.cut_lists.proofs.Maps.{maps_agree}

pub extends_more : (xs ys zs : List ℕ) (m n : ℕ) → Extends xs m ys → Extends ys n zs → Extends xs (m + n) zs
extends_more xs ys zs m n first second = grind arith

pub key_places_kept : (k : ℕ) (old new : List ℕ) (m : ℕ) (edges : List Edge) (key_places : List KeyPlace)
    → Extends old m new → AreKeyPlaces k old edges key_places → AreKeyPlaces k new edges key_places
key_places_kept k old new m edges key_places extends are = grind (arith, maps_agree)

-- one more key place
pub key_places_push : (k : ℕ) (blocks : List ℕ) (edges : List Edge) (key_places : List KeyPlace) (e : Edge)
    (key_place : KeyPlace)
    → AreKeyPlaces k blocks edges key_places → IsKeyPlace blocks (edge_number k e) key_place
    → AreKeyPlaces k blocks (edges ++ e ∷ []) (key_places ++ key_place ∷ [])
key_places_push k blocks edges key_places e key_place are is = record {
  keys = grind (arith, map-append);
  within = All-push (λ key_place. key_place.block < length blocks) key_places key_place are.within is.within;
  eight = All-push (λ key_place. key_place.key < 8) key_places key_place are.eight is.eight;
}

-- once more blocks are added
pub key_places_more : (k : ℕ) (old new : List ℕ) (edges : List Edge) (key_places : List KeyPlace) (e : Edge)
    (key_place : KeyPlace)
    → Extends old 1 new → AreKeyPlaces k old edges key_places → IsKeyPlace new (edge_number k e) key_place
    → AreKeyPlaces k new (edges ++ e ∷ []) (key_places ++ key_place ∷ [])
key_places_more k old new edges key_places e key_place extends are is =
    key_places_push k new edges key_places e key_place (key_places_kept k old new 1 edges key_places extends are) is

pub begins_still : (first old new : List ℕ) (m : ℕ) → Extends old m new → BeginsWith first old → BeginsWith first new
begins_still first old new m extends begins = grind arith
