use Rattle.cut_session.proofs.Owned.{own_reply}
use Rattle.cut_session.proofs.trust.trusted_replies_are_own.Goals as goal

pub returns : goal.returns
returns c = λ text plan out reads answers.
    own_reply text plan out c.true_slips_give_the_table.ensures.sums
    (c.accepted_texts_give_plans.ensures text plan reads) reads answers
