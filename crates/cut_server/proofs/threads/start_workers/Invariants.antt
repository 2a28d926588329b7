use Rattle.std.proofs.Common.{◌≡◌, ◌≤◌, ◌+◌, length, All}
use Rattle.std.specs.Prelude.{vec_capacity}
use Rattle.cut_server.proofs.threads.start_workers.Given as goal

-- `count` workers have begun, and the passes that are left, and those that they took, are this hall's
abbrev pub invariant-loop : goal.invariant-loop
invariant-loop g l = record {
  rest : All (λ p. p.hall ≡ g.H.ServerHall.id_of l.site.hall.now) l.passes.items;
  own : All (λ h. h.promise.0.value.hall ≡ g.H.ServerHall.id_of l.site.hall.now) l.started.items;
  many : length l.started.items ≡ l.counter;
  whole : length l.started.items + length l.passes.items ≡ length l.fn.passes.items;
  few : l.count ≤ length l.fn.passes.items;
  room : l.count ≤ vec_capacity l.started;
}
