use Rattle.std.proofs.Common.{refl}
use Rattle.std.specs.Prelude.{string_bytes}
use Rattle.cut_machines.proofs.JoinEnds.{ends_joined, ends_stopped, ends_without_plan}
use Rattle.cut_machines.proofs.join_command.join_onto.Goals as goal

pub returns-in-Ok-text-clause-ends : goal.returns-in-Ok-text-clause-ends
returns-in-Ok-text-clause-ends g c =
    let ends = rw c.in-Ok-text.is at c.join_slips_of-disk.ensures.ends in
    ends_joined _ _ c.join_slips_of-disk.ensures.known c.in-Ok.plan (string_bytes c.in-Ok-text.text) _ _ _
    (g.W.Wire.log c.read_plan.new.wire) _ (rw c.of-source.ensures at c.in-Ok.ensures) ends.0 ends.1
    (rw c.as_bytes.ensures.value at c.write_answer-ended.ensures)

pub returns-clause-ends : goal.returns-clause-ends
returns-clause-ends g c =
    ends_stopped _ _ c.join_slips_of-disk.ensures.known c.in-Ok.plan c.in-Err-text.fault _ _ _
    (rw c.of-source.ensures at c.in-Ok.ensures) (rw c.in-Err-text.is at c.join_slips_of-disk.ensures.ends)

pub returns-in-Err-clause-ends : goal.returns-in-Err-clause-ends
returns-in-Err-clause-ends g c =
    ends_without_plan _ _ refl c.in-Err.fault _ _ (record { new = refl; each = λ path. refl })
    (rw c.of-source.ensures at c.in-Err.ensures)
