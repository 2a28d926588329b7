use Rattle.std.proofs.Common.{◌≡◌, ◌≤◌, ℕ, ◌+◌, ◌*◌, ◌<◌, List, [], length, slice_index_or, vec_len, vec_capacity}
use Rattle.cut_arrivals.specs.blocks.Images.{eight, least_over}
use Rattle.cut_arrivals.proofs.blocks.images.least_of.Given as goal

-- the least images of the blocks so far
abbrev pub invariant-loop-block : goal.invariant-loop-block
invariant-loop-block l = record {
  least : (b : ℕ) (f : ℕ → ℕ → ℕ → ℕ) (rows : List ℕ) → b < l.block → length rows ≡ 4
      → ((c : ℕ) → c < l.copies → slice_index_or l.images (c * l.blocks + b) [] ≡ eight (f c) rows)
      → slice_index_or l.least.items b [] ≡ eight (least_over f l.copies) rows;
  many : vec_len l.least ≡ l.block;
  room : l.blocks ≤ vec_capacity l.least;
}
