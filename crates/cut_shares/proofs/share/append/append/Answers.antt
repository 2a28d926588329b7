use Rattle.std.proofs.Common.{[], None, refl, ap}
use Rattle.std.proofs.lemmas.Result.{err_from_is_err_and}
use Rattle.cut_journal.proofs.Adding.{none_added}
use Rattle.cut_shares.proofs.Appends.{done_one}
use Rattle.cut_shares.proofs.Words.{Computed}
use Rattle.cut_shares.proofs.share.append.append.Goals as goal

pub returns-in_default : goal.returns-in_default
returns-in_default g c =
    rw c.in_default.is
    ([], None, (none_added g.D.Disk.log c.args.journal.now c.journals_stay_readable.ensures.sound, (refl, refl)))

pub add-requires : goal.add-requires
add-requires g c = ap (λ (r : Computed). r.plan) (rw c.in-Some.is at c.requires)

pub returns-in_err-add : goal.returns-in_err-add
returns-in_err-add g c =
    let p = err_from_is_err_and c.from_residual.result c.from_residual.ensures.1 in
    let one = done_one c.args.journal.now.plan c.args.task.now c.in-Some.result c.in-Some.is c.requires in
    rw (p.1, p.2, one) c.in_err-add.ensures

pub returns : goal.returns
returns g c =
    rw (done_one c.args.journal.now.plan c.args.task.now c.in-Some.result c.in-Some.is c.requires) c.in_ok-add.ensures
