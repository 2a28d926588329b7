use Rattle.std.proofs.Common.{ap, false, filter, ◌≡◌, ◌∙◌, arith}
use Rattle.cut_rings.specs.declared.edge.Edge.{Edge}
use Rattle.cut_alerts.specs.Alerted.{is_alerted, all_edges}
use Rattle.cut_alerts.specs.inside.Suspects.{is_marked}
use Rattle.cut_alerts.proofs.EdgeLemmas.{subject_more, subject_skipped}
use Rattle.cut_alerts.proofs.alerted.list_alerts.Goals as goal

pub suspects-suspects-requires : goal.suspects-suspects-requires
suspects-suspects-requires c =
    (omega arith, (c.requires.rings, (c.requires.nodes, c.nodes-nodes.ensures.layout.few_nodes)))

pub loop-subject-preserved-then-not-suspects-from : goal.loop-subject-preserved-then-not-suspects-from
loop-subject-preserved-then-not-suspects-from c =
    let unmarked : is_marked c.suspects-suspects.result c.loop-subject.subject ≡ false = search (arith, c.if-not-suspects-from.true, c.from.ensures) in
    subject_skipped (λ (e : Edge). is_alerted c.args.rings.now c.args.roles.now e) c.args.k c.loop-subject.subject _
    c.loop-subject.invariant (c.suspects-suspects.ensures.others c.loop-subject.subject (omega arith) unmarked)

pub loop-subject-preserved : goal.loop-subject-preserved
loop-subject-preserved c =
    grind (arith, subject_more)

pub returns : goal.returns
returns c =
    let all : c.loop-subject.subject ≡ c.args.rings.now.nodes = omega arith in
    c.loop-subject.invariant ∙ ap (λ n. filter (λ (e : Edge). is_alerted c.args.rings.now c.args.roles.now e)
    (all_edges c.args.k n)) all
