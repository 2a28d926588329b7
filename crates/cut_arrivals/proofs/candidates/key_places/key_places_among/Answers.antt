use Rattle.std.proofs.Common.{◌∷◌, ◌++◌, [], take, sym, subst}
use Rattle.std.specs.Prelude.{slice_index_or}
use Rattle.std.proofs.lemmas.List.{take_more}
use Rattle.cut_rings.specs.declared.edge.Edge.{Edge}
use Rattle.cut_arrivals.specs.candidates.KeyPlaces.{AreKeyPlaces}
use Rattle.cut_arrivals.specs.candidates.inside.KeyPlaces.{IsKeyPlace}
use Rattle.cut_arrivals.proofs.KeyPlaceLemmas.{key_places_more, extends_more, begins_still}
use Rattle.cut_arrivals.proofs.candidates.key_places.key_places_among.Goals as goal

pub loop-edge-preserved : goal.loop-edge-preserved
loop-edge-preserved c =
    let k = c.args.k in
    let edges = c.args.edges.now in
    let i = c.loop-edge.edge-index in
    let none : Edge = record { ring = 0; subject = 0 } in
    let olds = c.loop-edge.blocks.items in
    let news = c.key_place_of.new.blocks.items in
    let pushed = key_places_more k olds news (take i edges) c.loop-edge.key_places.items _ c.in_ok-key_place.key_place
    c.in_ok-key_place.ensures.blocks c.loop-edge.invariant.key_places
    (subst (λ number. IsKeyPlace news number c.in_ok-key_place.key_place) c.number.ensures
    c.in_ok-key_place.ensures.key_place) in
    record {
      key_places = subst (λ es. AreKeyPlaces k news es c.push.new.self.items)
          (sym (take_more edges i none c.loop-edge-test.true))
          (subst (λ key_places. AreKeyPlaces k news (take i edges ++ slice_index_or edges i none ∷ []) key_places)
          (sym c.in_ok-push.ensures.items) pushed);
      blocks = extends_more c.args.blocks.now.items olds news i 1 c.loop-edge.invariant.blocks
          c.in_ok-key_place.ensures.blocks;
      first = begins_still c.args.first.now olds news 1 c.in_ok-key_place.ensures.blocks c.loop-edge.invariant.first;
    }
