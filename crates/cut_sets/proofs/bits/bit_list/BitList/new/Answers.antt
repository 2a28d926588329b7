use Rattle.std.proofs.Common.{◌∙◌, ℕ, List, ap}
use Rattle.cut_sets.specs.bits.inside.Bits.{bits_of}
use Rattle.cut_sets.proofs.Places.{none_set}
use Rattle.cut_sets.proofs.bits.bit_list.BitList.new.Goals as goal

pub returns : goal.returns
returns c =
    ap (λ (words : List ℕ). bits_of words c.args.len) (c.in_ok-words.ensures.items_if_clones_equal (λ y same. same))
    ∙ none_set _ c.args.len
