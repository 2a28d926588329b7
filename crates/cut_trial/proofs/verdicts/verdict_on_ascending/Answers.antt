use Rattle.std.proofs.Common.{◌≡◌, length, nat_lt}
use Rattle.cut_outcome.proofs.Words.{lacks_target, has_other}
use Rattle.cut_trial.proofs.Ascending.{lacks_target-count, has_other-count}
use Rattle.cut_trial.proofs.verdicts.verdict_on_ascending.Goals as goal

pub returns : goal.returns
returns c = λ p same.
    let found = c.targets_among-found.result in
    let lacks = lacks_target-count c.args.roles.now c.args.members.now c.requires.ascending in
    let other = has_other-count c.args.roles.now c.args.members.now in
    let conflict : nat_lt found c.args.targets ≡ lacks_target c.args.roles.now p.members =
    rw (same, lacks, c.targets_among-found.ensures, c.requires.targets) in
    let extra : nat_lt found (length c.args.members.now) ≡ has_other c.args.roles.now p.members =
    rw (same, other, c.targets_among-found.ensures) in
    cc (conflict, extra)
