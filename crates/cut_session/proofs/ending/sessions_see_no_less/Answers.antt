use Rattle.cut_session.proofs.Turns.{all_rises}
use Rattle.cut_session.proofs.ending.sessions_see_no_less.Goals as goal

pub returns : goal.returns
returns c = λ hall low high end old new ends. all_rises hall low high ends.0.answered ends.0.out ends.1.replies
