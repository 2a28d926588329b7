use Rattle.std.proofs.Common.{◌≡◌, ℕ, List, map, get_or, sym, ap, ◌∙◌, arith}
use Rattle.std.specs.List.{range_with_len}
use Rattle.std.proofs.lemmas.Option.{get_or_from_slice_get}
use Rattle.std.proofs.lemmas.List.{length-set}
use Rattle.cut_draws.specs.ProcessOrder.{process_rank}
use Rattle.cut_alerts.specs.Assignment.{Assignment}
use Rattle.cut_alerts.specs.Drawn.{ranked_role}
use Rattle.cut_alerts.specs.declared.role.Role.{Role}
use Rattle.cut_alerts.specs.declared.role.Role.TheVariants.{Healthy}
use Rattle.cut_alerts.proofs.RankLemmas.{roles_more, fewer_left, roles_all, ranked_late}
use Rattle.cut_alerts.proofs.roles.Roles.draw.Goals as goal

pub loop-rank-preserved : goal.loop-rank-preserved
loop-rank-preserved c =
    let role : ℕ → ℕ → Role = λ p i. ranked_role c.args.plan.now c.args.cell.f c.args.rings.now p i in
    let order = c.order_processes.new.order in
    let roles = c.loop-rank.self-inside.roles.items in
    let process = c.from-in-loop-rank-2.result in
    let rank = c.loop-rank.rank in
    let at : get_or order rank 0 ≡ process =
    ap (λ i. get_or order i 0) (sym c.from-in-loop-rank.ensures)
    ∙ get_or_from_slice_get order c.from-in-loop-rank.result c.get-process.result 0 c.get-process.ensures
    ∙ sym c.from-in-loop-rank-2.ensures
    in
    let own : c.ranked_role.result ≡ role process rank = c.ranked_role.ensures
    ∙ ap (λ p. role p rank) (sym c.from-in-loop-rank-2.ensures) in
    record {
      long = length-set roles process c.ranked_role.result ∙ c.loop-rank.invariant.long;
      set = roles_more c.args.draws.now c.nodes-n.result order c.in_ok-order_processes.ensures.order role Healthy rank
          process c.ranked_role.result roles
          (omega arith) at own c.loop-rank.invariant.long c.loop-rank.invariant.set;
      rest = fewer_left c.args.draws.now c.nodes-n.result order c.in_ok-order_processes.ensures.order Healthy rank
          process c.ranked_role.result roles (omega arith) at c.loop-rank.invariant.rest;
    }

pub returns-clause-drawn : goal.returns-clause-drawn
returns-clause-drawn c =
    let role : ℕ → ℕ → Role = λ p i. ranked_role c.args.plan.now c.args.cell.f c.args.rings.now p i in
    let by_n : ℕ → List Role = λ n. map (λ p. role p (process_rank c.args.draws.now n p)) (range_with_len 0 n) in
    let all = roles_all c.args.draws.now c.nodes-n.result c.order_processes.new.order
    c.in_ok-order_processes.ensures.order role Healthy c.loop-rank.rank c.loop-rank.self-inside.roles.items
    c.loop-rank.invariant.long
    (λ p rank late below. ranked_late c.args.plan.now c.args.cell.f c.args.rings.now p rank
    (omega (arith, late, below, c.loop-rank-test.false, c.liars.ensures.value, c.links.ensures.value)))
    c.loop-rank.invariant.set c.loop-rank.invariant.rest in
    let are : c.loop-rank.self-inside.roles.items ≡ by_n c.args.plan.now.nodes = all
    ∙ ap by_n (c.nodes-n.ensures.value ∙ c.requires.nodes) in
    ap (λ roles. (let a : Assignment = record { roles = roles; dead = c.dead-self-inside.result } in a)) are
    ∙ ap (λ dead. (let a : Assignment = record { roles = by_n c.args.plan.now.nodes; dead = dead } in a))
    c.dead-self-inside.ensures.value
