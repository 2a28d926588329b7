use Rattle.std.proofs.Common.{sym, ◌∙◌, arith}
use Rattle.cut_trial.proofs.verdict_counts.VerdictCounts.close.Goals as goal

pub returns-clause-judged : goal.returns-clause-judged
returns-clause-judged c = λ a all targets few h.
    let counted = c.in_ok-add_votes.ensures.counted h.others (omega (arith, few, h.few)) h.ballot in
    record {
      verdicts = grind arith;
      votes = λ q. rw targets at (counted q) ∙ sym (h.votes q);
    }
