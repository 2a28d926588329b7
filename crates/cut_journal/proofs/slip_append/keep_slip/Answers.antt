use Rattle.std.proofs.Common.{◌∙◌, take, ap, arith, ℕ}
use Rattle.cut_faults.specs.Failures.{counted}
use Rattle.cut_disks.specs.Log.{on}
use Rattle.cut_journal.proofs.Appends.{first_at, gate_before}
use Rattle.cut_journal.proofs.Files.{keeps}
use Rattle.cut_journal.proofs.slip_append.keep_slip.Goals as goal

pub write_through-requires : goal.write_through-requires
write_through-requires g c = grind (arith, gate_before)

pub returns-in_err-write_through-clause-keeps : goal.returns-in_err-write_through-clause-keeps
returns-in_err-write_through-clause-keeps g c =
    grind (
      arith,
      first_at c.write_through.result c.args.next.study.now c.args.next.gate.number c.args.next.gate.place
          c.args.next.slip (take c.slip_length.result c.slip_bytes-bytes.result) (on (g.D.Disk.log c.args.disk.now))
          (on (g.D.Disk.log c.write_through.new.disk)) c.args.next.place c.writes_stay_in_their_span.ensures,
    )

pub write_through-requires-2 : goal.write_through-requires-2
write_through-requires-2 g c =
    grind (arith, gate_before c.args.next.study.now c.args.next.gate.number c.args.next.gate.place)

pub returns-clause-keeps : goal.returns-clause-keeps
returns-clause-keeps g c = record {
  known = c.write_through-2.ensures.writes.known ∙ c.in_ok-write_through.ensures.writes.known;
  state = λ known. keeps c.write_through-2.result c.args.next.study.now c.args.next.gate.number c.args.next.gate.place
      c.args.next.slip (take c.slip_length.result c.slip_bytes-bytes.result) (on (g.D.Disk.log c.args.disk.now))
      (on (g.D.Disk.log c.write_through.new.disk)) (on (g.D.Disk.log c.write_through-2.new.disk)) c.args.next.place
      c.writes_stay_in_their_span.ensures (c.requires.sound known) c.slip_bytes-bytes.ensures.numbers
      c.requires.reports (ap (λ (k : ℕ). take k c.slip_bytes-bytes.result) c.slip_length.ensures.value
      ∙ c.slip_bytes-bytes.ensures.bytes) (c.in_ok-write_through.ensures.writes.state known)
      (c.write_through-2.ensures.writes.state (c.in_ok-write_through.ensures.writes.known ∙ known));
  faults = c.write_through-2.ensures.writes.faults
      ∙ ap (counted c.write_through-2.result) c.in_ok-write_through.ensures.writes.faults;
}
