use Rattle.cut_shares.proofs.LawsOfJoins.{joined_table, joined_true, joined_whole_table}
use Rattle.cut_shares.proofs.join.laws.joined_slips_give_the_same_table.Goals as goal

pub returns : goal.returns
returns c = record {
  slips = joined_true c.true_slips_give_the_table.ensures.good;
  table = joined_table;
  whole = joined_whole_table c.true_slips_give_the_table.ensures.good c.true_slips_give_the_table.ensures.table;
}
