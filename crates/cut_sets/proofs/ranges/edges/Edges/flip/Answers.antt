use Rattle.std.proofs.Common.{◌∙◌, nat_le, ap}
use Rattle.cut_sets.specs.ranges.inside.Edges.{flipped}
use Rattle.cut_sets.proofs.EdgeLemmas.{flipped_twice}
use Rattle.cut_sets.proofs.ranges.edges.Edges.flip.Goals as goal

pub returns : goal.returns
returns c = λ t. rw (← c.self.view_is)
    (c.flip_from-2.ensures.flipped t
    ∙ ap (λ b. flipped (nat_le c.args.end t) b) (c.flip_from.ensures.flipped t)
    ∙ flipped_twice c.args.from c.args.end t _ c.requires.order)
