use Rattle.std.proofs.Common.{◌≡◌, ◌+◌, ◌∷◌, [], Some, arith}
use Rattle.std.proofs.lemmas.List.{length_push}
use Rattle.std.proofs.lemmas.List.Elements.{filter_map-append}
use Rattle.cut_outcome.proofs.Words.{members_of, cast_of, targets_of}
use Rattle.cut_trial.proofs.Ascending.{exact_is_right}
use Rattle.cut_outcome.proofs.FastRound.{more_exact}
use Rattle.cut_trial.proofs.verdict_counts.VerdictCounts.add_exact.Goals as goal

pub returns-clause-judging : goal.returns-clause-judging
returns-clause-judging c = λ a p before is placed few h.
    let cast = filter_map-append members_of before (Some p ∷ []) in
    let exact : c.count.new.self.exact ≡ c.args.self.now.exact + 1 =
    omega (arith, few, h.few, c.saturating_add-self.ensures, c.count.ensures.exact) in
    record {
      verdicts = search (arith, exact_is_right, c.count.ensures.verdicts);
      others = h.others;
      ballot = rw c.count.ensures.ballot h.ballot;
      votes = λ q. rw (cast, is, exact)
          (more_exact (cast_of before) h.others (targets_of a) c.args.self.now.exact h.votes q);
      few = omega (arith, h.few, exact, length_push before (Some p));
    }
