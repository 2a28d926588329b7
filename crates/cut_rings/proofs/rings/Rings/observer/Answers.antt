use Rattle.std.proofs.Common.{◌≡◌, ap, sym, arith, inl, inr, subst}
use Rattle.cut_rings.specs.Layout.{IsLayout}
use Rattle.cut_rings.proofs.Neighbours.{IsNext, AreNeighbours, read, observer_read}
use Rattle.cut_rings.proofs.rings.Rings.observer.Goals as goal
use Rattle.cut_rings.proofs.rings.Rings.observer.Goals.{then-place-eq0, else-place-eq0}

found : (c : goal.After-row_known-3-1) → AreNeighbours c.args.self.now c.args.ring c.index.result.now c.args.subject
found c =
    let l = c.args.self.now in
    let place = c.index-place.result.now in
    let before = c.if-place-eq0.before in
    let is : IsLayout l = subst IsLayout c.self.view_is c.self.invariant.layout in
    let same : l.nodes ≡ c.self.inside.nodes = ap (λ m. m.nodes) (sym c.self.view_is) in
    let is_read = read c.self.inside c.self.invariant l c.self.view_is c.args.ring c.index-ring.result.now
    c.args.subject place before c.index.result.now c.requires.ring c.requires.subject c.index-ring.ensures
    c.index-place.ensures c.index.ensures in
    let next : IsNext l.nodes before place =
    elim c.if-place-eq0.branch [
      | then-place-eq0 w ↦ inl (omega (arith, is.some_nodes), omega arith)
      | else-place-eq0 w ↦ inr ((λ e. omega (arith, is_read.place_in)), omega arith)
    ]
    in
    observer_read l is c.args.ring c.args.subject place before c.index.result.now c.requires.ring c.requires.subject
    is_read next

pub returns-clause-value : goal.returns-clause-value
returns-clause-value c = (found c).observer

pub returns-clause-observes : goal.returns-clause-observes
returns-clause-observes c = (found c).observes

pub returns-clause-in_range : goal.returns-clause-in_range
returns-clause-in_range c = (found c).observer_in
