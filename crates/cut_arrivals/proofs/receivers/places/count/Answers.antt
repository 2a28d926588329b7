use Rattle.std.proofs.lemmas.Grind.{common_steps}
use Rattle.std.proofs.Common.{arith}
use Rattle.std.proofs.lemmas.List.{length-take}
use Rattle.std.proofs.lemmas.List.Sums.{count_by-le-length}
use Rattle.cut_arrivals.proofs.receivers.places.count.Goals as goal

pub counted-more-requires : goal.counted-more-requires
counted-more-requires c i low =
    grind (arith, count_by-le-length, length-take)

pub loop-key_place-preserved : goal.loop-key_place-preserved
loop-key_place-preserved c i low =
    grind (arith, common_steps)
