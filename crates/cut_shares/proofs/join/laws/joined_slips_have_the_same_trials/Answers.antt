use Rattle.cut_shares.proofs.Goods.{good_sound}
use Rattle.cut_shares.proofs.LawsOfJoins.{joined_apart, joined_good, joined_trials}
use Rattle.cut_shares.proofs.join.laws.joined_slips_have_the_same_trials.Goals as goal

pub returns : goal.returns
returns c = record {
  trials = λ v ss good. joined_trials v ss (good_sound v ss good);
  good = joined_good;
  apart = λ v ss good. joined_apart v ss (good_sound v ss good);
}
