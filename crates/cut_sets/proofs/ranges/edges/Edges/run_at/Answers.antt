use Rattle.std.proofs.Common.{ℕ, List}
use Rattle.cut_sets.proofs.EdgeLemmas.{run_is}
use Rattle.cut_sets.proofs.ranges.edges.Edges.run_at.Goals as goal

pub returns : goal.returns
returns c =
    let xs : List ℕ = c.self.inside.edges.items in
    let up = rw c.deref.ensures.value at c.edges_up_to-at.ensures in
    let next = rw c.deref-2.ensures.value at c.edge_at.ensures in
    rw (← c.self.view_is) (run_is xs c.args.number _ _ c.requires c.self.invariant up.within up.parts next.within
    next.past)
