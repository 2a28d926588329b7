use Rattle.std.proofs.Common.{◌≡◌, length, rules, refl}
use Rattle.cut_plan.specs.inside.Triples.{triples}
use Rattle.cut_plan.proofs.Counting.{length_cells_of_lists}
use Rattle.cut_plan.proofs.plan_lists.count_cells.Goals as goal

pub returns : goal.returns
returns c =
    let lists = c.args.lists.now in
    let first : c.from.result ≡ triples lists.k.items lists.h.items lists.l.items =
    rw (← c.as_slice.ensures.value, ← c.as_slice-2.ensures.value, ← c.as_slice-3.ensures.value, c.from.ensures)
    c.count_triples-triples.ensures.value in
    let second : c.len.result ≡ length lists.f.items = search rules in
    rw (length_cells_of_lists lists.k.items lists.h.items lists.l.items lists.f.items, first, second) refl
