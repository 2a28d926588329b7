use Rattle.std.proofs.lemmas.Grind.{common_steps}
use Rattle.std.proofs.Common.{arith}
use Rattle.cut_ledger.proofs.FillLemmas.{true_give}
use Rattle.cut_ledger.proofs.TrueSlips.{true_are_good}
use Rattle.cut_ledger.proofs.TrueSums.{true_sum}
use Rattle.cut_ledger.proofs.laws.true_slips_give_the_table.Goals as goal

pub returns : goal.returns
returns c = grind (arith, common_steps, true_are_good, true_give, true_sum)
