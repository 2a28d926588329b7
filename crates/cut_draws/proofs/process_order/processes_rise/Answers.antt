use Rattle.std.proofs.Common.{nat_lt, ◌/◌, rules}
use Rattle.std.proofs.lemmas.List.Sorted.{answers_always}
use Rattle.cut_draws.proofs.PackedProcesses.{rising}
use Rattle.cut_draws.proofs.process_order.processes_rise.Goals as goal

pub returns : goal.returns
returns c =
    rising c.args.packed.now c.is_sorted_by.result
    (c.is_sorted_by.ensures.cases (λ x y. nat_lt (x / 65536) (y / 65536))
    (answers_always _ _ _ (λ f a r g called. search rules)))
