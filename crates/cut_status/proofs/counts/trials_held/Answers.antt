use Rattle.std.proofs.Common.{◌+◌, List, ℕ, take, arith}
use Rattle.cut_plan.specs.Values.{Values}
use Rattle.cut_outcome.specs.Sum.{each_number}
use Rattle.cut_ledger.specs.declared.slip.Slip.{Slip}
use Rattle.cut_status.proofs.Counting.{held_none, held_more, held_few}
use Rattle.cut_status.proofs.counts.trials_held.Goals as goal

-- what is read of a list where nothing is
abbrev no_slip : Slip
no_slip = record { piece = record { first = 0; count = 0 }; totals = each_number (λ n. 0) }

pub loop-slip-init : goal.loop-slip-init
loop-slip-init c = held_none c.args.plan.now

pub overflow_add-held : goal.overflow_add-held
overflow_add-held c =
    let v : Values = c.args.plan.now in
    let ss : List Slip = c.args.slips.now in
    let i : ℕ = c.loop-slip.slip-index in
    omega (
      arith,
      c.loop-slip.invariant,
      held_more v ss i no_slip c.requires.good c.loop-slip-test.true,
      held_few v (take (i + 1) ss) c.requires.plan,
    )

pub loop-slip-preserved : goal.loop-slip-preserved
loop-slip-preserved c =
    grind (arith, held_more)
