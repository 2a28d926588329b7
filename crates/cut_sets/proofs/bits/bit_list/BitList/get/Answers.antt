use Rattle.std.proofs.Common.{arith}
use Rattle.std.proofs.lemmas.Grind.{get_or_default_zero}
use Rattle.std.proofs.lemmas.Nat.Bits.{shr_and_one}
use Rattle.cut_sets.proofs.Places.{found, past}
use Rattle.cut_sets.proofs.bits.bit_list.BitList.get.Goals as goal

pub returns-then-place-self : goal.returns-then-place-self
returns-then-place-self c =
    grind (arith, past)

pub returns : goal.returns
returns c =
    grind (arith, shr_and_one, get_or_default_zero, found)
