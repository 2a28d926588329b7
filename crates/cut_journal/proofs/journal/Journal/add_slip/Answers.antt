use Rattle.std.proofs.Common.{arith}
use Rattle.cut_journal.proofs.Adding.{slip_added, slip_failed}
use Rattle.cut_journal.proofs.journal.Journal.add_slip.Goals as goal

pub returns-in-Ok : goal.returns-in-Ok
returns-in-Ok g c =
    slip_added g.D.Disk.log c.args.slip c.args.self.now c.append_slip.new.self c.journals_stay_readable.ensures.sound
    c.in-Ok.field-0 c.in-Ok.ensures.broken c.in-Ok.ensures.left c.in-Ok.ensures.appends

pub returns-in-Err : goal.returns-in-Err
returns-in-Err g c = grind (arith, slip_failed)
