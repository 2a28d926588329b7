use Rattle.std.proofs.Common.{sym, ◌∙◌}
use Rattle.cut_rings.specs.declared.edge.Edge.{Edge}
use Rattle.cut_alerts.specs.Alerted.{is_alerted}
use Rattle.cut_alerts.proofs.EdgeLemmas.{kept_more, skipped_more}
use Rattle.cut_alerts.proofs.alerted.push_alerts.Goals as goal

pub loop-ring-preserved-then-not-is_alert : goal.loop-ring-preserved-then-not-is_alert
loop-ring-preserved-then-not-is_alert c =
    skipped_more (λ (e : Edge). is_alerted c.args.rings.now c.args.roles.now e) c.args.subject c.loop-ring.ring
    c.args.edges.now.items _ (sym c.is_alert.ensures ∙ cc) c.loop-ring.invariant

pub loop-ring-preserved : goal.loop-ring-preserved
loop-ring-preserved c =
    c.in_ok-push.ensures.items
    ∙ kept_more (λ (e : Edge). is_alerted c.args.rings.now c.args.roles.now e) c.args.subject c.loop-ring.ring
    c.args.edges.now.items _ (sym c.is_alert.ensures ∙ cc) c.loop-ring.invariant
