use Rattle.std.proofs.Common.{◌≡◌, ◌∙◌, None, refl, sym}
use Rattle.cut_ledger.specs.Tally.{has_trial}
use Rattle.cut_status.specs.Status.{StatusValue}
use Rattle.cut_status.proofs.Counting.{status_by, tally_status}
use Rattle.cut_status.proofs.status.Status.of.Goals as goal

pub returns-clause-ok : goal.returns-clause-ok
returns-clause-ok c = λ slips added.
    (let none : c.args.tally.now.refused ≡ None = sym c.refused.ensures ∙ c.in_default.is in
    let over = tally_status c.args.tally.now slips none added in
    let read : (let s : StatusValue = record {
      held = c.held.result;
      trials = c.trials.result;
      done = c.done_cells.result;
      cells = c.cells.result;
      slips = c.from.result;
      text = c.in-Ok.text.items;
    } in s) ≡ status_by c.args.tally.now.plan (has_trial c.args.tally.now) c.args.tally.now.slips = rw (
      c.held.ensures,
      c.trials.ensures.value,
      c.done_cells.ensures,
      c.cells.ensures.value,
      c.from.ensures,
      c.slips.ensures,
      c.in-Ok.ensures.text,
      c.plan-plan.ensures.value,
    ) refl in
    (over.0, read ∙ over.1))
