use Rattle.std.proofs.Common.{arith}
use Rattle.cut_arrivals.proofs.Bounds.{few_heard}
use Rattle.cut_arrivals.proofs.receivers.images.Images.times.Goals as goal

pub gather-requires-clause-room : goal.gather-requires-clause-room
gather-requires-clause-room c = omega
    (arith, few_heard c.args.self.now.trial c.args.candidate.now c.requires.candidate, c.requires.room)
