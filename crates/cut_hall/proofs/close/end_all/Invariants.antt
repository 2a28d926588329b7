use Rattle.std.proofs.Common.{◌≡◌, ◌+◌, length, vec_len}
use Rattle.std.specs.Vec.Iter.{into_iter_len}
use Rattle.cut_slots.specs.Report.{calls_in_all}
use Rattle.cut_slots.specs.Start.{AreOpenedWith}
use Rattle.cut_hall.proofs.close.end_all.Given as goal

-- the slots so far are ended
abbrev pub invariant-loop-place : goal.invariant-loop-place
invariant-loop-place g l = record {
  many : length l.slots.items + into_iter_len l.place-iterator ≡ vec_len l.fn.places;
  parts : l.kept.parts ≡ length l.slots.items;
  amount : l.kept.amount ≡ calls_in_all l.slots.items;
  opened : AreOpenedWith g.K.CallLedger.opening l.slots.items;
}
