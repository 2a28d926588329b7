use Rattle.std.proofs.Common.{◌≡◌, ℕ, ◌+◌, ◌*◌, ◌<◌, List, [], length, slice_index_or}
use Rattle.cut_arrivals.specs.blocks.Images.{eight, least_over}
use Rattle.cut_arrivals.proofs.blocks.images.least_at.Given as goal

-- the least images over the copies so far
abbrev pub invariant-loop-copy : goal.invariant-loop-copy
invariant-loop-copy l =
    (f : ℕ → ℕ → ℕ → ℕ) (rows : List ℕ) → length rows ≡ 4
    → ((c : ℕ) → c < l.copies → slice_index_or l.images (c * l.blocks + l.block) [] ≡ eight (f c) rows)
    → l.least ≡ eight (least_over f l.copy) rows
