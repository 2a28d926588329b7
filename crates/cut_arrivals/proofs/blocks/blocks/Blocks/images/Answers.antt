use Rattle.std.proofs.Common.{◌∙◌, ℕ, sym, ap}
use Rattle.cut_draws.specs.Source.{word_of}
use Rattle.cut_arrivals.specs.blocks.Images.{eight, place_in}
use Rattle.cut_arrivals.proofs.Words.{image_is}
use Rattle.cut_arrivals.proofs.blocks.blocks.Blocks.images.Goals as goal

pub returns : goal.returns
returns c =
    c.images_of.ensures (λ q b. word_of c.args.self.now (place_in b q)) c.args.blocks c.high_words.ensures
    ∙ ap (λ (f : ℕ → ℕ → ℕ). eight f c.args.blocks) (λ i q b. sym (image_is c.args.self.now (place_in b q)) i)
