use Rattle.std.proofs.Common.{◌∷◌, [], ◌++◌, Some, None, option_map, append-nil, refl, sym, ap, ◌∙◌, arith}
use Rattle.std.proofs.lemmas.List.{length_push}
use Rattle.cut_outcome.proofs.Words.{members_of, cast_of, targets_of}
use Rattle.std.proofs.lemmas.List.Elements.{filter_map-append}
use Rattle.cut_outcome.proofs.FastRound.{more_others}
use Rattle.cut_outcome.proofs.Outcomes.{none_proposed, nowhere, some_proposed}
use Rattle.cut_trial.proofs.verdict_counts.VerdictCounts.add.Goals as goal

pub returns-in_default-clause-judging : goal.returns-in_default-clause-judging
returns-in_default-clause-judging c = λ p before same at few h.
    let silent = none_proposed p (ap (λ o. option_map (λ m. m.now) o) (sym c.in_default.is) ∙ same) in
    let cast = filter_map-append members_of before (None ∷ []) ∙ append-nil (cast_of before) in
    rw silent (record {
      verdicts = c.count.ensures.verdicts c.args.roles.now None before refl (nowhere _) few h.verdicts;
      others = h.others;
      ballot = rw c.count.ensures.ballot h.ballot;
      votes = λ q. rw (cast, c.count.ensures.exact) (h.votes q);
      few = omega (arith, h.few, c.count.ensures.exact, length_push before None);
    })

pub returns-clause-judging : goal.returns-clause-judging
returns-clause-judging c = λ p before same at few h.
    let is = ap (λ o. option_map (λ m. m.now) o) (sym c.in-Some.is) in
    let members = c.in-Some.members.now in
    let found = some_proposed p members (is ∙ same) in
    let cast = filter_map-append members_of before (Some found.0 ∷ []) in
    let counted = c.in_ok-add_members.ensures.counted h.others (omega (arith, few, h.few)) h.ballot in
    rw found.1 (record {
      verdicts = c.count-2.ensures.verdicts c.args.roles.now (Some found.0) before
          (c.verdict_on_ascending.ensures found.0 found.2) (rw found.1 at at) few
          (record {
            conflicts = h.verdicts.conflicts;
            silent = h.verdicts.silent;
            extra = h.verdicts.extra;
            settled = h.verdicts.settled;
            places = h.verdicts.places;
          });
      others = h.others ++ members ∷ [];
      ballot = rw c.count-2.ensures.ballot counted;
      votes = λ q. rw (cast, found.2, c.count-2.ensures.exact)
          (more_others (cast_of before) h.others members (targets_of c.args.roles.now) c.args.self.now.exact h.votes q);
      few = grind (arith, length_push);
    })
