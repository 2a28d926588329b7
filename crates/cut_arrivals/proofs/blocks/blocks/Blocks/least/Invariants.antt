use Rattle.std.proofs.Common.{◌≡◌}
use Rattle.cut_arrivals.specs.blocks.Images.{eight, least_image}
use Rattle.cut_arrivals.proofs.blocks.blocks.Blocks.least.Given as goal

-- the least images over the copies so far
abbrev pub invariant-loop-copy : goal.invariant-loop-copy
invariant-loop-copy l = l.least ≡ eight (least_image l.self l.copy l.block) l.rows.first
