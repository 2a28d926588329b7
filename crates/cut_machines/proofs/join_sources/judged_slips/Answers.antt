use Rattle.std.proofs.lemmas.Result.{IfErr-weaker}
use Rattle.cut_machines.proofs.JoinSourceLemmas.{judged_stops, paths_of}
use Rattle.cut_machines.proofs.join_sources.judged_slips.Goals as goal

pub returns-clause-stops : goal.returns-clause-stops
returns-clause-stops g c =
    IfErr-weaker c.check_slips.result _ _ (λ e bad. judged_stops (g.F.Files.log c.args.files.now) _
    (paths_of c.args.paths.now) c.args.plan.now c.in_ok-slips_of_all.field-0.items e.fault
    c.in_ok-slips_of_all.ensures.held c.in_ok-slips_of_all.ensures.read bad) c.check_slips.ensures.stops
