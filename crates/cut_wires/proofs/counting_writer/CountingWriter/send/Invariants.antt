use Rattle.std.proofs.Common.{◌≡◌, ◌-◌, ◌≤◌, length, take}
use Rattle.cut_wires.specs.Sending.{sending, sent_on}
use Rattle.cut_wires.proofs.counting_writer.CountingWriter.send.Given as goal

-- the first bytes were sent, and no call failed
abbrev pub invariant-loop-taken : goal.invariant-loop-taken
invariant-loop-taken g l = record {
  within : l.taken ≤ length l.bytes;
  sent : sending g.W.Wire.log l.self ≡ sent_on (sending g.W.Wire.log l.fn.self) (take l.taken l.bytes);
}

abbrev pub decreases-loop-taken : goal.decreases-loop-taken
decreases-loop-taken g l = length l.bytes - l.taken
