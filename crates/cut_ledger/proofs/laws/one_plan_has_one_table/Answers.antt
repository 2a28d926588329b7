use Rattle.cut_ledger.proofs.Words.{begun, run, start}
use Rattle.cut_ledger.proofs.Events.{law, alike}
use Rattle.cut_ledger.proofs.laws.one_plan_has_one_table.Goals as goal

pub returns : goal.returns
returns c = λ v journal other_journal size other_size events others good results other_results.
    let equal = c.same_plans_are_equal.ensures in
    alike v (run (begun (start v size journal)) events) (run (begun (start v other_size other_journal)) others)
    (law equal journal v size events good results) (law equal other_journal v other_size others good other_results)
