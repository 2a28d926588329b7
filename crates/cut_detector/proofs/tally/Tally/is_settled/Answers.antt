use Rattle.std.proofs.Common.{◌==◌, ◌&&◌, ap, sym, ◌∙◌}
use Rattle.cut_detector.proofs.Words.{lt-ltb}
use Rattle.cut_detector.proofs.Counting.{settled_by}
use Rattle.cut_detector.proofs.tally.Tally.is_settled.Goals as goal

pub returns-then-self-gt0 : goal.returns-then-self-gt0
returns-then-self-gt0 c =
    let t = c.args.self.now in
    ap (λ b. b && (t.stable == t.marked)) (sym (lt-ltb 0 t.stable c.if-self-gt0.true)) ∙ settled_by t
