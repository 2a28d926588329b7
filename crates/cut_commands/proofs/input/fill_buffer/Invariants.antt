use Rattle.std.proofs.Common.{◌≡◌, ◌-◌, ◌≤◌, false, length, take}
use Rattle.cut_commands.specs.Run.{read_on}
use Rattle.cut_commands.proofs.input.fill_buffer.Given as goal

-- the first bytes of the buffer were read, and not the end, and no call failed
abbrev pub invariant-loop-filled : goal.invariant-loop-filled
invariant-loop-filled g l = record {
  within : l.filled ≤ length l.buffer;
  log : g.W.Wire.log l.wire ≡ read_on (take l.filled l.buffer) false (g.W.Wire.log l.fn.wire);
}

abbrev pub decreases-loop-filled : goal.decreases-loop-filled
decreases-loop-filled g l = length l.initial.buffer - l.filled
