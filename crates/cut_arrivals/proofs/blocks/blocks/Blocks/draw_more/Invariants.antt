use Rattle.std.proofs.Common.{◌≡◌, ◌≤◌, ◌+◌, ◌++◌, map, take, length, vec_len, vec_capacity}
use Rattle.cut_arrivals.specs.blocks.Images.{eight, least_image}
use Rattle.cut_arrivals.proofs.blocks.blocks.Blocks.draw_more.Given as goal

-- the blocks so far are drawn, and there is room for all
abbrev pub invariant-loop-block : goal.invariant-loop-block
invariant-loop-block l = record {
  drawn : l.images.items
      ≡ l.initial.images.items ++ map (λ b. eight (least_image l.self l.fn.copies b) l.fn.rows)
      (take l.block-index l.blocks);
  many : vec_len l.images ≡ vec_len l.initial.images + l.block-index;
  room : vec_len l.initial.images + length l.blocks ≤ vec_capacity l.images;
}
