use Rattle.std.proofs.Common.{arith}
use Rattle.cut_journal.specs.Opening.{IsNewStudy}
use Rattle.cut_journal.proofs.Moments.{weaker, and_then}
use Rattle.cut_journal.proofs.Makings.{IsNone, new_written, none_new}
use Rattle.cut_journal.proofs.new_study.write_new.Goals as goal

pub returns-in_err-close_study_gate : goal.returns-in_err-close_study_gate
returns-in_err-close_study_gate g c =
    grind (arith, weaker IsNone (IsNewStudy c.args.file.study.now) (none_new c.args.file.study.now))

pub returns-in_err-write_rest : goal.returns-in_err-write_rest
returns-in_err-write_rest g c =
    grind (arith, weaker IsNone (IsNewStudy c.args.file.study.now) (none_new c.args.file.study.now), and_then IsNone)

pub returns : goal.returns
returns g c =
    grind (arith, new_written c.args.file.study.now)
