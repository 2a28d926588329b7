use Rattle.std.proofs.Common.{◌≡◌, All, List, Result, Err, sym, subst}
use Rattle.std.specs.Bool.{⊤}
use Rattle.std.proofs.lemmas.List.Elements.{All-push}
use Rattle.cut_slots.specs.Pass.{Holding}
use Rattle.cut_slots.specs.Report.{SlotEnd}
use Rattle.cut_slots.specs.declared.not_closed.NotClosed.{NotClosed}
use Rattle.cut_slots.specs.declared.not_closed.NotClosed.TheVariants.{Memory}
use Rattle.cut_pool.proofs.Leaving.{end_as}
use Rattle.cut_pool.proofs.private_hall.WorkerPasses.close.Goals as goal

pub close_study-requires-clause-own : goal.close_study-requires-clause-own
close_study-requires-clause-own g c =
    subst (All (λ (p : Holding). p.hall ≡ c.args.hall.id)) (sym c.in-Ok.ensures.items)
    (All-push (λ (p : Holding). p.hall ≡ c.args.hall.id) c.args.self.others.items c.args.self.writer
    c.requires.others c.requires.writer)

pub close_study-requires-in-Err-clause-own : goal.close_study-requires-in-Err-clause-own
close_study-requires-in-Err-clause-own g c =
    subst (All (λ (p : Holding). p.hall ≡ c.args.hall.id)) (sym c.in-Err.ensures.items) c.requires.others

pub returns-in-Err-clause-ends : goal.returns-in-Err-clause-ends
returns-in-Err-clause-ends g c =
    let report : Result (List SlotEnd) (NotClosed ⊤) = Err Memory in
    end_as g.D.Disk.log c.args.hall.opening c.close_study-in-Err.result.report report
    c.close_study-in-Err.result.is_broken c.close_study-in-Err.result.journal tt c.close_study-in-Err.ensures.ends
