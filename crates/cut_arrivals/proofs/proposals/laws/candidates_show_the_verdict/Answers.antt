use Rattle.cut_arrivals.proofs.ProposalsJudged.{candidates_show_lacking, candidates_show_other, members_are_targets}
use Rattle.cut_arrivals.proofs.proposals.laws.candidates_show_the_verdict.Goals as goal

pub returns : goal.returns
returns c = record {
  lacking = candidates_show_lacking c.images_are_below_never.ensures;
  other = candidates_show_other c.images_are_below_never.ensures;
  exact = members_are_targets;
}
