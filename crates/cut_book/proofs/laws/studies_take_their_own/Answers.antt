use Rattle.cut_book.proofs.OwnSlips.{take_their_own}
use Rattle.cut_book.proofs.laws.studies_take_their_own.Goals as goal

pub returns : goal.returns
returns c = take_their_own c.same_plans_are_equal.ensures
