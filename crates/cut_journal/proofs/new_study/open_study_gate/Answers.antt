use Rattle.std.proofs.Common.{arith}
use Rattle.cut_disks.specs.Log.{on}
use Rattle.cut_journal.proofs.Files.{new_file}
use Rattle.cut_journal.proofs.Makings.{open_reads, open_step}
use Rattle.cut_journal.proofs.new_study.open_study_gate.Goals as goal

pub returns : goal.returns
returns g c =
    grind (
      arith,
      open_step c.write_through.result c.args.study.now (on (g.D.Disk.log c.args.disk.now))
          (on (g.D.Disk.log c.write_through.new.disk)) c.is_short.ensures c.writes_stay_in_their_span.ensures,
      open_reads c.args.study.now,
      new_file c.args.study.now,
    )
