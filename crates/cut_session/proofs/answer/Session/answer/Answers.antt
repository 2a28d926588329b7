use Rattle.std.proofs.lemmas.Grind.{common_steps}
use Rattle.std.proofs.Common.{arith}
use Rattle.cut_session.proofs.answer.Session.answer.Goals as goal

pub returns-in-Row-clause-serves : goal.returns-in-Row-clause-serves
returns-in-Row-clause-serves g c = grind (arith, common_steps)
