use Rattle.std.proofs.Common.{◌∙◌, sym, ap}
use Rattle.cut_ledger.proofs.Words.{StudyState}
use Rattle.cut_ledger.proofs.run.Run.finish.Goals as goal

pub returns-clause-reply : goal.returns-clause-reply
returns-clause-reply c = rw (
  sym c.in_ok-is_finished.ensures.value ∙ c.if-branch.false,
  sym (ap (λ (s : StudyState). s.broken) c.self.view_is) ∙ c.if-self.false,
  sym c.has_lost.ensures ∙ c.if-has_lost.false,
)
