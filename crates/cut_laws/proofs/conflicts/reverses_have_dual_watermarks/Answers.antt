use Rattle.cut_laws.proofs.Duality.{dual_conflicts}
use Rattle.cut_laws.proofs.conflicts.reverses_have_dual_watermarks.Goals as goal

pub returns : goal.returns
returns c =
    dual_conflicts c.conflicts_are_settled_too_soon.ensures.sets c.a_wider_gap_proposes_later.ensures.lists
