use Rattle.std.proofs.Common.{◌≡◌, ◌+◌, ◌≤◌, vec_len, vec_capacity}
use Rattle.cut_hall.proofs.hall.places_of.Given as goal

-- a part is left for each place that is still to come
abbrev pub invariant-loop : goal.invariant-loop
invariant-loop g l = record {
  parts : l.rest.parts + l.counter ≡ l.slots;
  none : l.rest.amount ≡ 0;
  many : vec_len l.places ≡ l.counter;
  room : l.slots ≤ vec_capacity l.places;
}
