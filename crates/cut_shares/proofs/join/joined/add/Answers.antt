use Rattle.std.proofs.Common.{rules, ◌≡◌, ◌-◌, ◌∙◌, List, true, set, sym, ap}
use Rattle.std.proofs.lemmas.List.{get_or_default, nil_from_length}
use Rattle.cut_shares.proofs.Runs.{with_last}
use Rattle.cut_shares.proofs.Words.{Slip, adjoins}
use Rattle.cut_shares.proofs.join.joined.add.Goals.{else-before-gt0-via-then-before-gt0+else-adjoins}
use Rattle.cut_shares.proofs.join.joined.add.Goals.{else-before-gt0-via-else-before-gt0}
use Rattle.cut_shares.proofs.join.joined.add.Goals as goal

pub returns-then-adjoins : goal.returns-then-adjoins
returns-then-adjoins c =
    let olds : List Slip = c.args.merged.now.items in
    let n = c.len-before.result - 1 in
    let again = c.index-then-adjoins.ensures in
    let made : Slip = c.index-then-adjoins.result.now in
    let same : c.index.result.now ≡ made =
    c.index.ensures ∙ get_or_default olds n c.index.result.now made (search rules) ∙ sym again in
    let is : adjoins c.args.plan.now made.piece c.args.slip.piece ≡ true = search rules in
    ap (λ (s : Slip). set olds n s) c.with_next.ensures
    ∙ sym (rw is at (with_last c.args.plan.now olds c.args.slip made n (search rules) again))

pub returns : goal.returns
returns c =
    elim c.else-before-gt0.branch [
      | else-before-gt0-via-then-before-gt0+else-adjoins w ↦ c.in_ok-push.ensures.items
          ∙ sym (rw (sym w.if-adjoins.ensures) at (with_last c.args.plan.now c.args.merged.now.items c.args.slip
          w.index.result.now (c.len-before.result - 1) (search rules) w.index.ensures))
      | else-before-gt0-via-else-before-gt0 w ↦ c.in_ok-push.ensures.items
          ∙ rw (nil_from_length c.args.merged.now.items (search rules))
    ]
