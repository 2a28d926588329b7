use Rattle.std.proofs.Common.{◌≡◌, ◌≤◌, vec_len, vec_capacity, take}
use Rattle.cut_detector.proofs.Words.{filter, stable_in}
use Rattle.cut_detector.proofs.tally.Tally.gather.Given as goal

abbrev pub invariant-loop-subject : goal.invariant-loop-subject
invariant-loop-subject l = record {
  members : l.members.items ≡ filter (stable_in l.self.rule l.self.full) (take l.subject-index l.self.touched.items);
  few : vec_len l.members ≤ l.subject-index;
  room : vec_capacity l.initial.members ≤ vec_capacity l.members;
}
