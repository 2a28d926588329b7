use Rattle.std.proofs.Common.{◌∙◌, ◌∷◌, true, false, Ok, Err, refl, sym, [], None, rules}
use Rattle.std.proofs.lemmas.Result.{err_from_is_err_and}
use Rattle.cut_journal.specs.declared.store_fault.StoreFault.TheVariants.{Memory}
use Rattle.cut_journal.proofs.Adding.{none_added}
use Rattle.cut_shares.proofs.Endings.{ends_run, ends_unbegun}
use Rattle.cut_shares.proofs.share.share_run.ShareRun.run.Goals as goal

pub returns-then-not-same-clause-ends : goal.returns-then-not-same-clause-ends
returns-then-not-same-clause-ends g c = (
  [],
  None,
  (none_added g.D.Disk.log c.args.journal.now c.journals_stay_readable.ensures.sound, (search rules, (refl, refl))),
)

pub returns-in_err-gaps-clause-ends : goal.returns-in_err-gaps-clause-ends
returns-in_err-gaps-clause-ends g c =
    ends_unbegun g.D.Disk.log c.args.self.share c.args.self.plan.now c.args.self.slips.now c.args.journal.now
    c.journals_stay_readable.ensures.sound c.from_residual.result c.in_err-gaps.field-0.0 c.from_residual.ensures.1
    c.in_err-gaps.ensures.err (sym c.plan.ensures ∙ c.if-not-same.ensures.values.0 refl)

pub returns-in_err-rings-clause-ends : goal.returns-in_err-rings-clause-ends
returns-in_err-rings-clause-ends g c =
    ends_unbegun g.D.Disk.log c.args.self.share c.args.self.plan.now c.args.self.slips.now c.args.journal.now
    c.journals_stay_readable.ensures.sound c.from_residual-in_err-rings.result Memory c.from_residual-in_err-rings.ensures.1
    tt (sym c.plan.ensures ∙ c.if-not-same.ensures.values.0 refl)

pub returns-in_err-tasks-clause-ends : goal.returns-in_err-tasks-clause-ends
returns-in_err-tasks-clause-ends g c =
    ends_unbegun g.D.Disk.log c.args.self.share c.args.self.plan.now c.args.self.slips.now c.args.journal.now
    c.journals_stay_readable.ensures.sound c.from_residual-in_err-tasks.result Memory c.from_residual-in_err-tasks.ensures.1
    tt (sym c.plan.ensures ∙ c.if-not-same.ensures.values.0 refl)

pub returns-in_err-run_pieces-clause-ends : goal.returns-in_err-run_pieces-clause-ends
returns-in_err-run_pieces-clause-ends g c =
    let of = c.of-pieces in
    let p = err_from_is_err_and c.from_residual-in_err-run_pieces.result c.from_residual-in_err-run_pieces.ensures.1 in
    rw (p.1, p.2)
    (ends_run g.D.Disk.log c.args.self.slips.now (of.result.rest ∷ of.result.later.now) c.deref.result.now
    c.args.journal.now c.run_pieces.new.journal (Err c.in_err-run_pieces.field-0.0)
    c.gaps_are_what_is_not_held.ensures.gaps c.in_ok-gaps.ensures.good
    (sym c.plan.ensures ∙ c.if-not-same.ensures.values.0 refl) (c.deref.ensures.value ∙ c.in_ok-gaps.ensures.ok)
    of.ensures.times of.ensures.share of.ensures.plan c.in_err-run_pieces.ensures)

pub returns-then-branch-clause-ends : goal.returns-then-branch-clause-ends
returns-then-branch-clause-ends g c =
    let of = c.of-pieces in
    rw c.trials-all.ensures
    (ends_run g.D.Disk.log c.args.self.slips.now (of.result.rest ∷ of.result.later.now) c.deref.result.now
    c.args.journal.now c.run_pieces.new.journal (Ok true) c.gaps_are_what_is_not_held.ensures.gaps
    c.in_ok-gaps.ensures.good (sym c.plan.ensures ∙ c.if-not-same.ensures.values.0 refl)
    (c.deref.ensures.value ∙ c.in_ok-gaps.ensures.ok) of.ensures.times of.ensures.share of.ensures.plan
    (rw c.if-branch.true at c.in_ok-run_pieces.ensures))

pub returns-clause-ends : goal.returns-clause-ends
returns-clause-ends g c =
    let of = c.of-pieces in
    ends_run g.D.Disk.log c.args.self.slips.now (of.result.rest ∷ of.result.later.now) c.deref.result.now
    c.args.journal.now c.run_pieces.new.journal (Ok false) c.gaps_are_what_is_not_held.ensures.gaps
    c.in_ok-gaps.ensures.good (sym c.plan.ensures ∙ c.if-not-same.ensures.values.0 refl)
    (c.deref.ensures.value ∙ c.in_ok-gaps.ensures.ok) of.ensures.times of.ensures.share of.ensures.plan
    (rw c.if-branch.false at c.in_ok-run_pieces.ensures)
