use Rattle.std.proofs.Common.{◌≡◌, ap, sym, arith, inl, inr, subst}
use Rattle.cut_rings.specs.Layout.{IsLayout}
use Rattle.cut_rings.proofs.Neighbours.{IsNext, AreNeighbours, read, subject_read}
use Rattle.cut_rings.proofs.rings.Rings.subject.Goals as goal
use Rattle.cut_rings.proofs.rings.Rings.subject.Goals.{then-place-self, else-place-self}

found : (c : goal.After-row_known-3-1) → AreNeighbours c.args.self.now c.args.ring c.args.observer c.index.result.now
found c =
    let l = c.args.self.now in
    let place = c.index-place.result.now in
    let after = c.if-place-self.after in
    let is : IsLayout l = subst IsLayout c.self.view_is c.self.invariant.layout in
    let same : l.nodes ≡ c.self.inside.nodes = ap (λ m. m.nodes) (sym c.self.view_is) in
    let is_read = read c.self.inside c.self.invariant l c.self.view_is c.args.ring c.index-ring.result.now
    c.args.observer place after c.index.result.now c.requires.ring c.requires.observer c.index-ring.ensures
    c.index-place.ensures c.index.ensures in
    let next : IsNext l.nodes place after =
    elim c.if-place-self.branch [
      | then-place-self w ↦ inl (omega arith, w.after-is)
      | else-place-self w ↦ inr ((λ e. w.if-place-self.false (omega arith)), w.after-is)
    ]
    in
    subject_read l is c.args.ring c.args.observer place after c.index.result.now c.requires.ring c.requires.observer
    is_read next

pub returns-clause-value : goal.returns-clause-value
returns-clause-value c = (found c).subject

pub returns-clause-observes : goal.returns-clause-observes
returns-clause-observes c = (found c).observes

pub returns-clause-in_range : goal.returns-clause-in_range
returns-clause-in_range c = (found c).subject_in
