use Rattle.std.proofs.Common.{rules}
use Rattle.cut_arrivals.proofs.BlocksLanes.{each_lane}
use Rattle.cut_arrivals.proofs.blocks.blocks.Blocks.first_states.Goals as goal

pub returns : goal.returns
returns c = each_lane _ (search rules) (search rules) (search rules) (search rules)
