-- The numbers hold each process under its key, and the list that is left is sorted.
use Rattle.std.proofs.Common.{◌∙◌, ap, map, sym, subst, arith}
use Rattle.std.specs.List.Sorted.{IsPermutation}
use Rattle.cut_draws.specs.Source.{key_at}
use Rattle.cut_draws.specs.ProcessOrder.{process_place, IsProcessOrder}
use Rattle.std.specs.List.{range_with_len}
use Rattle.cut_draws.specs.inside.PackedProcesses.{AreProcessesRising}
use Rattle.cut_draws.proofs.Processes.{ordered_processes}
use Rattle.cut_draws.proofs.PackedProcesses.{rising_processes}
use Rattle.cut_draws.proofs.draws.Draws.fill_processes.Goals as goal

pub returns-then-processes_rise-clause-order : goal.returns-then-processes_rise-clause-order
returns-then-processes_rise-clause-order c =
    let words = c.sort_unstable.new.self.items in
    rising_processes c.args.self.now c.args.n words (omega (arith, c.ranges.n.fits))
    (subst (λ xs. IsPermutation xs words) c.in_ok-pack_processes.ensures.keys c.sort_unstable.ensures.permutation)
    (subst AreProcessesRising c.as_slice.ensures.value (c.processes_rise.ensures c.if-processes_rise.true))

pub returns-clause-order : goal.returns-clause-order
returns-clause-order c =
    let d = c.args.self.now in
    let sorted = c.sort_unstable-2.new.self.items in
    let keys = c.in_ok-process_keys.ensures.keys
    ∙ ap (λ x. map (λ p. (key_at x (process_place p), p)) (range_with_len 0 c.args.n)) c.pack_processes.ensures.same
    in
    subst (IsProcessOrder d c.args.n)
    (sym (c.in_ok-list_processes.ensures ∙ ap (map (λ x. x.1)) c.as_slice-2.ensures.value))
    (ordered_processes d c.args.n sorted
    (subst (λ xs. IsPermutation xs sorted) keys c.sort_unstable-2.ensures.permutation) c.sort_unstable-2.ensures.sorted)
