use Rattle.std.proofs.Common.{◌≡◌, ◌∙◌, ◌+◌, ◌++◌, ◌∷◌, [], ℕ, List, Ok, Some, sym, subst, arith, zero-add}
use Rattle.std.proofs.Common.{length-append}
use Rattle.std.proofs.lemmas.List.FromFn.{map-range_with_len_more}
use Rattle.cut_plan.specs.Values.{Values}
use Rattle.cut_disks.specs.State.{DiskState}
use Rattle.cut_disks.specs.Log.{DiskLog, Goes, Shows, on}
use Rattle.cut_ledger.specs.declared.slip.Slip.{Slip}
use Rattle.cut_journal.specs.inside.Places.{first_slips}
use Rattle.cut_journal.specs.inside.Steps.{AreWhole, IsNext}
use Rattle.cut_journal.proofs.Gates.{gate_next}
use Rattle.cut_journal.proofs.Places.{slip_at}
use Rattle.cut_journal.proofs.Readings.{slips_read, damage_read, one_more_whole}
use Rattle.cut_journal.proofs.slips.read_slips.Goals as goal

pub returns-clause-reads : goal.returns-clause-reads
returns-clause-reads g c = grind (arith, slips_read)

pub returns-in_err-slip-clause-reads : goal.returns-in_err-slip-clause-reads
returns-in_err-slip-clause-reads g c = grind (arith, damage_read)

pub overflow_add-gate : goal.overflow_add-gate
overflow_add-gate g c = grind arith

-- a slip was read after others
more_read : (v : Values) (n : ℕ) (slips : List Slip) (slip : Slip) (old mid new : DiskLog)
    → Goes (λ k. k) (Shows (λ bytes. AreWhole v bytes n × (slips ≡ first_slips v bytes n))) old mid
    → Goes (λ k. k) (Shows (IsNext (Ok (Some slip)) v n)) mid new
    → Goes (λ k. k) (Shows (λ bytes. AreWhole v bytes (n + 1) × (slips ++ slip ∷ [] ≡ first_slips v bytes (n + 1))))
    old new
more_read v n slips slip old mid new before last = record {
  known = last.known ∙ before.known;
  state = λ known. (let held = before.state known in
      let next = last.state (before.known ∙ known) in
      let found = subst (λ (d : DiskState). IsNext (Ok (Some slip)) v n d.bytes) held.1 next.0 in (
        (
          one_more_whole v (on old).bytes n held.0.0 found.0 found.1,
          rw (held.0.1, found.2) (sym (map-range_with_len_more (slip_at v (on old).bytes) 0 n n (zero-add n))),
        ),
        next.1 ∙ held.1,
      ));
  faults = last.faults ∙ before.faults;
}

pub loop-slips-preserved : goal.loop-slips-preserved
loop-slips-preserved g c = record {
  number = grind (arith, length-append, c.in-Ok.ensures.items);
  place = omega (
    arith,
    c.loop-slips.invariant.place,
    c.slip_length.ensures.value,
    gate_next c.args.file.study.now c.loop-slips.gate.number,
  );
  within = omega (arith, (rw c.in-Some.is at c.in_ok-slip.ensures.reach), c.slip_length.ensures.value);
  reads = rw c.in-Ok.ensures.items (more_read c.args.file.study.now c.loop-slips.gate.number c.loop-slips.slips.items
      c.in-Some.slip (g.D.Disk.log c.args.disk.now) (g.D.Disk.log c.loop-slips.disk)
      (g.D.Disk.log c.next_slip.new.disk) c.loop-slips.invariant.reads (rw c.in-Some.is at c.in_ok-slip.ensures.reads));
}
