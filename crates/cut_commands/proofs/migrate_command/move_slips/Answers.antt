use Rattle.std.proofs.Common.{subst}
use Rattle.cut_plan.specs.Values.{Values}
use Rattle.cut_disks.specs.Log.{Goes}
use Rattle.cut_journal.specs.Opening.{IsClaimed}
use Rattle.cut_commands.proofs.MigrateLemmas.{since_claimed}
use Rattle.cut_commands.proofs.migrate_command.move_slips.Goals as goal

pub returns-in-Ok-claim : goal.returns-in-Ok-claim
returns-in-Ok-claim g c =
    let old = g.N.Disk.log c.args.disk in
    let mid = g.N.Disk.log c.in-Ok-claim.journal.disk in
    since_claimed c.args.plan.now c.args.slips.now old mid (g.N.Disk.log c.fill_journal.result.disk)
    (subst (λ (u : Values). Goes (λ n. n) (IsClaimed u) old mid) c.in-Ok.ensures.value c.in-Ok-claim.ensures.made)
    c.fill_journal.result.ended c.fill_journal.ensures
