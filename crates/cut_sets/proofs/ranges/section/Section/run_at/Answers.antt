use Rattle.std.proofs.Common.{◌/◌, List, map, ap, sym, subst, min, ◌∙◌}
use Rattle.std.proofs.lemmas.List.{get_or_read}
use Rattle.cut_sets.specs.ranges.inside.Blocks.{is_at}
use Rattle.cut_sets.specs.ranges.inside.Edges.{IsRun, Row}
use Rattle.cut_sets.proofs.BlockLemmas.{no_row, run_within, there}
use Rattle.cut_sets.proofs.ranges.section.Section.run_at.Goals as goal

pub returns : goal.returns
returns c =
    let rows : List Row = c.self.inside.blocks.items in
    let in' = there rows c.args.place _ c.self.view_is c.requires.within in
    let own = get_or_read rows (c.args.place / 65536) c.index.result.now in' c.index.ensures no_row in
    rw (← c.self.view_is)
    (subst (λ e. IsRun (is_at (map (λ (x : Row). x.edges) rows)) c.args.place
    (record { held = c.run_at-run.result.held; end = e }))
    (sym (c.min.ensures ∙ ap (min c.run_at-run.result.end) c.saturating_add.ensures))
    (run_within rows c.args.place c.run_at-run.result c.index.result.now in' own c.requires.below c.run_at-run.ensures))
