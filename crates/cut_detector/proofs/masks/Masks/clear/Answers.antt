use Rattle.std.proofs.Common.{arith}
use Rattle.cut_detector.proofs.Words.{take_all}
use Rattle.cut_lists.proofs.BitSets.{cleared}
use Rattle.cut_detector.proofs.masks.Masks.clear.Goals as goal

pub returns-clause-masks : goal.returns-clause-masks
returns-clause-masks c =
    grind (
      arith,
      cleared c.args.self.now.k c.args.self.now.masks.items c.loop-subject.self.masks.items
          c.args.subjects.now c.args.self.now.below c.loop-subject.invariant.long c.requires.alone,
      take_all c.loop-subject.subject-index c.args.subjects.now,
    )
