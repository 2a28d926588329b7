use Rattle.std.proofs.Common.{◌∙◌, length, sym, ap}
use Rattle.cut_sets.proofs.Places.{long}
use Rattle.cut_sets.proofs.bits.bit_list.BitList.len.Goals as goal

pub returns : goal.returns
returns c = sym (long c.self.inside.words.items c.self.inside.len) ∙ ap length c.self.view_is
