use Rattle.std.proofs.Common.{◌≡◌, ◌≤◌, ◌+◌, length, All}
use Rattle.std.specs.Prelude.{vec_capacity}
use Rattle.std.specs.Vec.Iter.{into_iter_items, into_iter_len}
use Rattle.cut_server.specs.Serve.{all_given}
use Rattle.cut_server.proofs.threads.start_sessions.Given as goal

-- the passes that are left, and those that sessions took, are this hall's, and each connection came
abbrev pub invariant-loop-pass : goal.invariant-loop-pass
invariant-loop-pass g l = record {
  can : (goal.iterator-loop-pass g).can_next l.pass-iterator;
  finite : (goal.iterator-loop-pass g).is_finite l.pass-iterator;
  rest : All (λ p. p.hall ≡ g.H.ServerHall.id_of l.site.hall.now) (into_iter_items l.pass-iterator);
  own : All (λ h. h.promise.0.value.hall ≡ g.H.ServerHall.id_of l.site.hall.now) l.started.items;
  whole : length l.started.items + into_iter_len l.pass-iterator ≡ length l.fn.passes.items;
  room : length l.fn.passes.items ≤ vec_capacity l.started;
  calls : g.L.Listener.calls l.listener ≡ all_given (length l.started.items) (g.L.Listener.calls l.fn.listener);
}
