use Rattle.std.proofs.Common.{arith}
use Rattle.std.proofs.lemmas.Map.Text.{text_keys}
use Rattle.cut_sockets.proofs.memory_sockets.MemorySocketsSockets.hang_up.Goals as goal

pub returns-in-Some-clause-elsewhere : goal.returns-in-Some-clause-elsewhere
returns-in-Some-clause-elsewhere g c = grind (arith, text_keys)
