use Rattle.std.proofs.Common.{◌≡◌, ◌-◌, ◌≤◌, ◌++◌, length, drop}
use Rattle.std.specs.List.{AllByRecursion, flat_map}
use Rattle.cut_messages.specs.Frames.{frame_of, IsMessage}
use Rattle.cut_messages.proofs.split.messages_in.Given as goal

-- the frames of the messages so far are the bytes so far
abbrev pub invariant-loop-kind : goal.invariant-loop-kind
invariant-loop-kind l = record {
  within : l.read ≤ length l.bytes;
  whole : l.bytes ≡ flat_map frame_of l.messages.items ++ drop l.read l.bytes;
  each : AllByRecursion (IsMessage l.side) l.messages.items;
}

abbrev pub decreases-loop-kind : goal.decreases-loop-kind
decreases-loop-kind l = length l.bytes - l.read
