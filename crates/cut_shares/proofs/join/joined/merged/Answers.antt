use Rattle.std.proofs.Common.{List, ◌≡◌, get_or, arith}
use Rattle.std.proofs.lemmas.List.{take_all, take_more}
use Rattle.cut_shares.proofs.Goods.{Ascend, earlier, no_slip}
use Rattle.cut_shares.proofs.Runs.{next_small, with_all, no_runs, runs_joined, runs_more}
use Rattle.cut_shares.proofs.Words.{IsSmall, Slip, with_slip}
use Rattle.cut_shares.proofs.join.joined.merged.Goals as goal

pub loop-slip-init : goal.loop-slip-init
loop-slip-init c = grind (arith, no_runs)

pub loop-slip-preserved : goal.loop-slip-preserved
loop-slip-preserved c =
    let v = c.args.plan.now in
    let slips : List Slip = c.args.slips.now in
    let i = c.loop-slip.slip-index in
    let olds : List Slip = c.loop-slip.merged.items in
    let x : Slip = get_or slips i no_slip in
    let small : IsSmall v x = c.requires.small i no_slip (omega arith) in
    let added : c.add.new.merged.items ≡ with_slip v olds x = c.in_ok-add.ensures in
    let rising : Ascend v slips =
    record { pieces = λ k d low. (c.requires.small k d low).piece; ascend = c.requires.ascend } in
    rw added (record {
      runs = rw (take_more slips i no_slip (omega arith))
          (runs_more v _ x (earlier v slips i no_slip rising (omega arith)) olds small.piece c.loop-slip.invariant.runs);
      small = with_all v x (IsSmall v) (IsSmall v) (λ s is. is) (λ s adjoin one. next_small v s x adjoin one small)
          small olds c.loop-slip.invariant.small;
    })

pub returns : goal.returns
returns c = grind (arith, take_all, runs_joined)
