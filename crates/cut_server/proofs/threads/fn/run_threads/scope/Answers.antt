use Rattle.std.proofs.Common.{◌∙◌}
use Rattle.std.proofs.lemmas.Result.{IfOk-weaker}
use Rattle.cut_server.proofs.AttendLemmas.{of_memory, unheard}
use Rattle.cut_server.proofs.threads.fn.run_threads.scope.Goals as goal

pub returns-in-Ok : goal.returns-in-Ok
returns-in-Ok g c = record {
  own = c.join_workers.ensures.own (g.H.ServerHall.id_of c.captures.site.now.hall.now) c.in-Ok.ensures.workers
      c.in-Ok.ensures.served;
  whole = IfOk-weaker c.join_workers.result _ _ (λ back is. is ∙ c.in-Ok.ensures.whole) c.join_workers.ensures.whole;
  why = of_memory c.join_workers.result c.join_workers.ensures.why;
  listens = unheard _ c.in-Ok.finished c.join_workers.result _ _ c.join_workers.ensures.why c.in-Ok.ensures.listens;
}
