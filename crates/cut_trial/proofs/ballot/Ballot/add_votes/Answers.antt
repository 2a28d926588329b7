use Rattle.std.proofs.Common.{ℕ, List, Some, unwrap_or, sym, ap, ◌∙◌, subst, arith, rules}
use Rattle.cut_outcome.proofs.Words.{same_members}
use Rattle.std.specs.HashMap.{HashMap, UpdatesBy}
use Rattle.std.specs.Global.{Vec}
use Rattle.std.specs.Option.{option_copied_mut}
use Rattle.std.proofs.lemmas.List.Sums.{count_by-le-length}
use Rattle.cut_outcome.proofs.FastRound.{has, same_key, counted_more, votes-shown}
use Rattle.cut_trial.proofs.ballot.Ballot.add_votes.Goals as goal

pub returns-in-Some-clause-counted : goal.returns-in-Some-clause-counted
returns-in-Some-clause-counted c = λ cast few h.
    let m : List ℕ = c.args.members.now in
    let old = c.self.inside.votes in
    let counted = c.saturating_add.result in
    let kept = rw (← c.self.view_is) at h in
    let was = ap (λ o. unwrap_or o 0) (sym c.get_mut.ensures.value)
    ∙ ap (λ r. unwrap_or (option_copied_mut r) 0) c.in-Some.is in
    let votes = votes-shown old.entries cast kept m in
    let fits = count_by-le-length (λ x. same_members x m) cast in
    counted_more old (c.get_mut.follows.lender counted) cast m c.args.votes counted kept
    ((c.get_mut.follows.holds counted).3 (search rules))
    (omega (arith, was, votes, few, fits, c.saturating_add.ensures))

pub returns-in_ok-insert-in-None-clause-counted : goal.returns-in_ok-insert-in-None-clause-counted
returns-in_ok-insert-in-None-clause-counted c = λ cast few h.
    let m : List ℕ = c.args.members.now in
    let was = ap (λ o. unwrap_or o 0) (sym c.get_mut.ensures.value)
    ∙ ap (λ r. unwrap_or (option_copied_mut r) 0) c.in-None.is in
    counted_more c.self.inside.votes c.insert.new.self cast m c.args.votes c.args.votes (rw (← c.self.view_is) at h)
    (subst (λ (x : HashMap (Vec ℕ) ℕ _). UpdatesBy same_key (has m) x c.insert.new.self (Some c.args.votes))
    c.get_mut.follows.holds-at-none
    (subst (λ x. UpdatesBy same_key (has x) c.get_mut.follows.lender-at-none c.insert.new.self (Some c.args.votes))
    c.in_ok-copy-in-None.ensures.items c.in_ok-insert-in-None.ensures.updates))
    (omega (arith, was))
