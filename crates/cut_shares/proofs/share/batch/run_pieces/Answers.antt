use Rattle.std.proofs.Common.{◌∙◌, ◌∷◌, refl, arith}
use Rattle.std.proofs.lemmas.Result.{err_from_is_err_and}
use Rattle.cut_journal.proofs.Adding.{none_added}
use Rattle.cut_shares.proofs.Batches.{batch_more, batch_stops, none_yet, up_to_end}
use Rattle.cut_shares.proofs.share.batch.run_pieces.Goals as goal

pub loop-pieces-init : goal.loop-pieces-init
loop-pieces-init g c = record {
  plan = refl;
  share = refl;
  upto = none_yet (none_added g.D.Disk.log c.args.journal.now c.journals_stay_readable.ensures.sound);
}

pub returns-then-count-eq0 : goal.returns-then-count-eq0
returns-then-count-eq0 g c =
    let held = c.loop-pieces.invariant in
    let count = c.if-count-eq0.true in
    let some = c.requires.some in
    let long = c.loop-pieces.auto.tasks in
    let none = c.deal_pieces-count.ensures.none (omega (arith, some, long, count)) in
    let taken = rw count at c.deal_pieces-count.ensures.taken in
    up_to_end held.upto held.share held.plan (λ t. omega (arith, none t, taken t))

pub returns-in_err-is_done : goal.returns-in_err-is_done
returns-in_err-is_done g c =
    let p = err_from_is_err_and c.from_residual.result c.from_residual.ensures.1 in
    let held = c.loop-pieces.invariant in
    let next = c.deal_pieces-count.new.pieces in
    let dealt = c.deal_pieces-count.ensures in
    rw (p.1, p.2)
    (batch_stops (next.rest ∷ next.later.now) c.run_batch.new.tasks c.run_batch.new.journal held.upto
    (held.upto.kept.plan ∙ c.requires.own) c.run_batch.ensures.pieces held.share held.plan dealt.own dealt.taken
    c.in_err-is_done.field-0.0 c.in_err-is_done.ensures.ends)

pub loop-pieces-preserved : goal.loop-pieces-preserved
loop-pieces-preserved g c =
    let held = c.loop-pieces.invariant in
    let next = c.deal_pieces-count.new.pieces in
    let dealt = c.deal_pieces-count.ensures in
    record {
      plan = dealt.plan ∙ held.plan;
      share = dealt.share ∙ held.share;
      upto = batch_more (next.rest ∷ next.later.now) c.run_batch.new.tasks c.run_batch.new.journal held.upto
          (held.upto.kept.plan ∙ c.requires.own) c.run_batch.ensures.pieces held.share held.plan dealt.own dealt.taken
          c.in_ok-is_done.is_done c.in_ok-is_done.ensures.done c.in_ok-is_done.ensures.ends;
    }
