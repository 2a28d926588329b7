use Rattle.std.proofs.Common.{◌∙◌, true, arith}
use Rattle.std.proofs.lemmas.List.{length-set}
use Rattle.cut_alerts.proofs.Suspects.{marked_more, ring_more}
use Rattle.cut_alerts.proofs.alerted.suspect.Goals as goal

pub loop-ring-preserved : goal.loop-ring-preserved
loop-ring-preserved c =
    let is = c.loop-ring.invariant in
    let before = c.loop-ring.suspects in
    let subject = c.from-in-loop-ring.result in
    let more = marked_more before subject (omega (
      arith,
      is.many,
      c.requires.room,
      c.from-in-loop-ring.ensures,
      c.subject.ensures.in_range,
    )) in
    record {
      many = length-set before subject true ∙ is.many;
      own = more.1 c.args.process is.own;
      kept = λ s marked. more.1 s (is.kept s marked);
      subjects = ring_more c.args.rings.now c.requires.layout c.args.process c.loop-ring.ring subject before _
          (omega (arith, c.requires.rings)) (omega (arith, c.subject.ensures.in_range, c.from-in-loop-ring.ensures))
          (search (arith, c.subject.ensures.observes, c.from-in-loop-ring.ensures)) more.0 more.1 is.subjects;
    }
