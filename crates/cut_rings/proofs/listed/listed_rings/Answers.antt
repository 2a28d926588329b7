use Rattle.std.proofs.Common.{◌≡◌, ◌∙◌, ℕ, List, Vec, Global, map, take, ap, sym, get_or}
use Rattle.std.specs.List.{range_with_len}
use Rattle.std.proofs.lemmas.List.{map_more}
use Rattle.std.proofs.lemmas.List.Elements.{All-same, All-push}
use Rattle.cut_rings.specs.declared.ring.Ring.{Ring}
use Rattle.cut_rings.specs.Listed.{listed_position}
use Rattle.cut_rings.specs.inside.Inverse.{IsInverse}
use Rattle.cut_rings.proofs.Sound.{positions_pushed}
use Rattle.cut_rings.proofs.listed.listed_rings.Goals as goal

pub loop-list-preserved : goal.loop-list-preserved
loop-list-preserved c =
    let P : Ring → Type 0 = λ r. IsInverse c.args.nodes r.order.items r.positions.items in
    let table : Vec ℕ Global → List ℕ = λ list. map (λ p. listed_position list.items p) (range_with_len 0 c.args.nodes)
    in
    let place = c.loop-list.list-index in
    let lists = c.args.lists.now in
    let item = c.list-item.result in
    let ring = c.in_ok-listed_ring.field-0 in
    let here : ring.positions.items ≡ table (get_or lists place item) =
    c.in_ok-listed_ring.ensures.positions
    ∙ ap (λ list. map (λ p. listed_position list p) (range_with_len 0 c.args.nodes)) c.as_slice.ensures.value
    ∙ ap table c.list-item.is
    in
    record {
      positions =
          positions_pushed c.loop-list.rings.items c.push.new.self.items ring (map table (take place lists))
          (table (get_or lists place item))
          c.in_ok-push.ensures.items here c.loop-list.invariant.positions
          ∙ sym (map_more table lists place item c.loop-list-test.true);
      inverse = All-same P _ _ c.in_ok-push.ensures.items
          (All-push P _ _ c.loop-list.invariant.inverse c.in_ok-listed_ring.ensures.inverse);
    }
