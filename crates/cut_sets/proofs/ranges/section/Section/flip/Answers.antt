use Rattle.std.proofs.lemmas.Grind.{common_steps}
use Rattle.std.proofs.Common.{◌≡◌, ◌∙◌, ◌<◌, ◌+◌, ◌-◌, ◌*◌, ◌/◌, ℕ, List, map, length, min, max, ap, sym, subst, arith}
use Rattle.std.proofs.lemmas.List.{get_or_read, get_or-set_other, length-map, length-set, map-set}
use Rattle.cut_sets.specs.ranges.inside.Blocks.{Blocks}
use Rattle.cut_sets.specs.ranges.inside.Edges.{Row, flipped, is_between, is_within}
use Rattle.cut_sets.proofs.BlockLemmas.{AreFlipped, blocks_in, edges_at, flipped_more, no_row}
use Rattle.cut_sets.proofs.ranges.section.Section.flip.Goals as goal

-- the block is one of the section's
in_blocks : (olds rows : List Row) (from end n : ℕ) (b : Blocks) → blocks_in olds ≡ b → (end - 1) / 65536
    < length b.blocks → n < (end - 1) / 65536 + 1 → AreFlipped (map (λ r. r.edges) olds) (map (λ r. r.edges) rows) from
    end n → n < length rows
in_blocks olds rows from end n b is within low are =
    grind (arith, length-map)

pub index_mut-requires : goal.index_mut-requires
index_mut-requires c =
    grind (arith, common_steps)

pub flip-requires-clause-room : goal.flip-requires-clause-room
flip-requires-clause-room c =
    let rows : List Row = c.loop-at.self-inside.blocks.items in
    let in' = in_blocks c.self.inside.blocks.items rows c.args.from c.args.end c.loop-at.at _ c.self.view_is
    c.requires.within c.loop-at-test.true c.loop-at.invariant.flipped in
    let own = get_or_read rows c.loop-at.at c.index_mut.result.now in' c.index_mut.ensures.value no_row in
    ap (λ (r : Row). r.room) own ∙ c.loop-at.invariant.room c.loop-at.at (omega arith) in'

pub loop-at-preserved : goal.loop-at-preserved
loop-at-preserved c =
    let rows : List Row = c.loop-at.self-inside.blocks.items in
    let n : ℕ = c.loop-at.at in
    let made : Row = c.flip.new.self in
    let in' : n < length rows = in_blocks c.self.inside.blocks.items rows c.args.from c.args.end n _ c.self.view_is
    c.requires.within c.loop-at-test.true c.loop-at.invariant.flipped in
    let own = get_or_read rows n c.index_mut.result.now in' c.index_mut.ensures.value no_row in
    let high : c.min.result ≡ min c.args.end (min (n * 65536 + 65536) 4294967295) = c.min.ensures
    ∙ ap (min c.args.end) c.saturating_add-stop.ensures in
    record {
      flipped = subst (λ bs. AreFlipped (map (λ e. e.edges) c.self.inside.blocks.items) bs c.args.from c.args.end
          (n + 1)) (sym (map-set (λ (r : Row). r.edges) rows n made))
          (flipped_more _ (map (λ e. e.edges) rows) c.args.from c.args.end n made.edges (omega arith)
          (omega (arith, length-map rows (λ (r : Row). r.edges))) c.loop-at.invariant.flipped
          (λ t.
          c.flip.ensures t
          ∙ ap (λ (k : ℕ). flipped (is_between k c.min.result t) (is_within c.index_mut.result.now.edges t))
          c.max.ensures
          ∙ ap (λ (k : ℕ). flipped (is_between (max c.args.from (n * 65536)) k t)
          (is_within c.index_mut.result.now.edges t)) high
          ∙ ap (λ (xs : List ℕ). flipped (is_between (max c.args.from (n * 65536))
          (min c.args.end (min (n * 65536 + 65536) 4294967295)) t) (is_within xs t))
          (ap (λ (r : Row). r.edges) own ∙ sym (edges_at rows n in'))));
      room = λ k le low. ap (λ (r : Row). r.room) (get_or-set_other rows n k made no_row (λ e. omega arith))
          ∙ c.loop-at.invariant.room k (omega arith) (omega (arith, length-set rows n made));
    }
