use Rattle.cut_arrivals.proofs.BlocksLanes.{shifts_turn}
use Rattle.cut_arrivals.proofs.blocks.rounds.turned.Goals as goal

pub returns : goal.returns
returns c = shifts_turn c.args.bits c.requires.0 c.requires.1 c.args.a c.fits-a.0 c.args.b c.fits-b.0
