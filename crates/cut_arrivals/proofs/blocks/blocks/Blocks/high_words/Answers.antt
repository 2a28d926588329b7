use Rattle.std.proofs.Common.{◌≡◌, ℕ, ◌<◌, slice_index, arith}
use Rattle.rand_chacha.specs.Block.{initial_state}
use Rattle.rand_chacha.specs.Lanes.{lane}
use Rattle.cut_draws.specs.Source.{word_of}
use Rattle.cut_arrivals.specs.blocks.Images.{place_in}
use Rattle.cut_arrivals.proofs.Eights.{eight_from}
use Rattle.cut_arrivals.proofs.Words.{word_vector}
use Rattle.cut_arrivals.proofs.blocks.blocks.Blocks.high_words.Goals as goal

-- the states in each lane before the rounds
begins : (c : goal.After-sum-8) → (j : ℕ) → j < 4
    → lane j c.with_blocks-first.result ≡ initial_state c.args.self.now.key (slice_index c.args.blocks j)
    c.args.self.now.stream
begins c = λ j low.
    c.with_blocks-first.ensures c.args.self.now.key c.args.self.now.stream j low (c.requires j low)

pub returns : goal.returns
returns c =
    eight_from (λ q b. word_of c.args.self.now (place_in b q)) c.args.blocks c.sum.result c.sum-2.result c.sum-3.result
    c.sum-4.result c.sum-5.result c.sum-6.result c.sum-7.result c.sum-8.result
    (word_vector c.args.self.now c.with_blocks-first.result c.eight_rounds-last.result c.args.blocks c.sum.result 0
    (omega arith)
    c.fits-blocks.0 c.sum.ensures.four (begins c) c.eight_rounds-last.ensures c.sum.ensures.lanes)
    (word_vector c.args.self.now c.with_blocks-first.result c.eight_rounds-last.result c.args.blocks c.sum-2.result 1
    (omega arith)
    c.fits-blocks.0 c.sum-2.ensures.four (begins c) c.eight_rounds-last.ensures c.sum-2.ensures.lanes)
    (word_vector c.args.self.now c.with_blocks-first.result c.eight_rounds-last.result c.args.blocks c.sum-3.result 2
    (omega arith)
    c.fits-blocks.0 c.sum-3.ensures.four (begins c) c.eight_rounds-last.ensures c.sum-3.ensures.lanes)
    (word_vector c.args.self.now c.with_blocks-first.result c.eight_rounds-last.result c.args.blocks c.sum-4.result 3
    (omega arith)
    c.fits-blocks.0 c.sum-4.ensures.four (begins c) c.eight_rounds-last.ensures c.sum-4.ensures.lanes)
    (word_vector c.args.self.now c.with_blocks-first.result c.eight_rounds-last.result c.args.blocks c.sum-5.result 4
    (omega arith)
    c.fits-blocks.0 c.sum-5.ensures.four (begins c) c.eight_rounds-last.ensures c.sum-5.ensures.lanes)
    (word_vector c.args.self.now c.with_blocks-first.result c.eight_rounds-last.result c.args.blocks c.sum-6.result 5
    (omega arith)
    c.fits-blocks.0 c.sum-6.ensures.four (begins c) c.eight_rounds-last.ensures c.sum-6.ensures.lanes)
    (word_vector c.args.self.now c.with_blocks-first.result c.eight_rounds-last.result c.args.blocks c.sum-7.result 6
    (omega arith)
    c.fits-blocks.0 c.sum-7.ensures.four (begins c) c.eight_rounds-last.ensures c.sum-7.ensures.lanes)
    (word_vector c.args.self.now c.with_blocks-first.result c.eight_rounds-last.result c.args.blocks c.sum-8.result 7
    (omega arith)
    c.fits-blocks.0 c.sum-8.ensures.four (begins c) c.eight_rounds-last.ensures c.sum-8.ensures.lanes)
