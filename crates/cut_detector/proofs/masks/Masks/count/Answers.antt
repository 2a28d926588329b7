use Rattle.std.proofs.Common.{ap, ◌∙◌, arith}
use Rattle.std.specs.Int.RustNames.{count_ones}
use Rattle.cut_detector.proofs.Bits.{mask-read, ones-are}
use Rattle.cut_detector.proofs.masks.Masks.count.Goals as goal

pub returns : goal.returns
returns c =
    let m = c.args.self.now in
    ap count_ones (mask-read m c.args.subject _ _ c.requires c.from.ensures c.index.ensures)
    ∙ ones-are m.k c.args.subject m.masks.items m.below (omega (arith, m.masks.ok.0))
