use Rattle.std.proofs.Common.{◌+◌, min, ap, ◌∙◌}
use Rattle.cut_outcome.proofs.Words.{judged}
use Rattle.cut_outcome.specs.declared.verdict.Verdict.{Verdict}
use Rattle.cut_outcome.proofs.Outcomes.{count_more, settled_more}
use Rattle.cut_trial.proofs.verdict_counts.VerdictCounts.count.Goals as goal

pub returns-clause-verdicts : goal.returns-clause-verdicts
returns-clause-verdicts c = λ a p before is placed few h.
    let places = settled_more c.args.self.now.version before p _ _ _ few h.settled h.places c.requires placed
    (c.saturating_add-self-4.ensures ∙ ap (λ n. min (c.args.self.now.settled + n) 18446744073709551615)
    c.place_for.ensures) in
    record {
      conflicts = count_more (λ x. (judged a x).conflict) before p _ _ _ _ few h.conflicts
          (ap (λ (v : Verdict). v.conflict) is) c.from.ensures c.saturating_add-self.ensures;
      silent = count_more (λ x. (judged a x).silent) before p _ _ _ _ few h.silent
          (ap (λ (v : Verdict). v.silent) is) c.from-2.ensures c.saturating_add-self-2.ensures;
      extra = count_more (λ x. (judged a x).extra) before p _ _ _ _ few h.extra
          (ap (λ (v : Verdict). v.extra) is) c.from-3.ensures c.saturating_add-self-3.ensures;
      settled = places.sum;
      places = places.few;
    }
