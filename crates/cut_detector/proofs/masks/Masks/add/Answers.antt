-- The written mask is that of one edge more.
use Rattle.std.proofs.Common.{arith}
use Rattle.cut_detector.proofs.Words.{get_or-set_at, length-set}
use Rattle.cut_detector.proofs.Bits.{mask-read, written, below-written, ones-are}
use Rattle.cut_detector.proofs.masks.Masks.add.Goals as goal

pub invariant_of-self-clause-below : goal.invariant_of-self-clause-below
invariant_of-self-clause-below c =
    let m = c.args.self.now in
    let e = c.args.edge in
    let old = mask-read m e.subject _ _ c.requires.subject c.from-subject.ensures c.index-before.ensures in
    below-written m e _ _ c.requires.ring c.requires.subject c.from-subject.ensures old

pub returns-clause-added : goal.returns-clause-added
returns-clause-added c =
    grind (arith, mask-read, written)

pub returns-clause-before : goal.returns-clause-before
returns-clause-before c =
    grind (arith, mask-read, ones-are)

pub returns-clause-after : goal.returns-clause-after
returns-clause-after c =
    grind (arith, length-set, get_or-set_at, ones-are)
