use Rattle.std.proofs.Common.{◌≡◌, ◌<◌, ◌+◌, ◌-◌, ◌*◌, ◌/◌, ◌%◌, ℕ, List, length, sym, subst, arith}
use Rattle.std.proofs.lemmas.List.{get_or_read}
use Rattle.cut_sets.specs.ranges.inside.Blocks.{Blocks}
use Rattle.cut_sets.specs.ranges.inside.Edges.{IsRun}
use Rattle.cut_sets.specs.ranges.Held.{Held, has}
use Rattle.cut_sets.specs.ranges.inside.SetInside.{held_in, no_blocks}
use Rattle.cut_sets.proofs.SetLemmas.{IsNumber, block_of, length_is, run_in}
use Rattle.cut_sets.proofs.ranges.range_set.RangeSet.run_at.Goals as goal

-- the number is one of the set's
its : (l n t : ℕ) (ss : List Blocks) (h : Held) → held_in l ss ≡ h → 0 < l → t < length h.held
    → IsNumber l (length ss) t
its l n t ss h is some low = grind (arith, length_is)

pub index-requires : goal.index-requires
index-requires c =
    grind (arith, its)

pub run_at-run-requires-clause-within : goal.run_at-run-requires-clause-within
run_at-run-requires-clause-within c =
    let l : ℕ = c.self.inside.section_len in
    let ss : List Blocks = c.self.inside.sections.items in
    let at = its l 0 c.args.number ss _ c.self.view_is c.self.invariant.some c.requires in
    let own = get_or_read ss (c.args.number / l) c.index.result.now at.section c.index.ensures no_blocks in
    subst (λ (s : Blocks). c.args.number % l / 65536 < length s.blocks) (sym own)
    (block_of l ss _ _ c.self.invariant.long at.section at.place)

pub overflow_add-result : goal.overflow_add-result
overflow_add-result c =
    grind (arith, its)

pub returns-clause-run : goal.returns-clause-run
returns-clause-run c =
    let l : ℕ = c.self.inside.section_len in
    let t : ℕ = c.args.number in
    let ss : List Blocks = c.self.inside.sections.items in
    let at = its l 0 t ss _ c.self.view_is c.self.invariant.some c.requires in
    let low : t < length ss * l = omega (arith, at.is, at.end, at.place) in
    let own = get_or_read ss (t / l) c.index.result.now at.section c.index.ensures no_blocks in
    rw (← c.self.view_is)
    (subst (λ (e : ℕ). IsRun (has (held_in l ss)) t (record { held = c.run_at-run.result.held; end = t - t % l + e }))
    (sym c.min.ensures)
    (run_in l ss t c.run_at-run.result c.index.result.now c.self.invariant.some low own c.run_at-run.ensures))

pub returns-clause-within : goal.returns-clause-within
returns-clause-within c =
    grind (arith, its, length_is)
