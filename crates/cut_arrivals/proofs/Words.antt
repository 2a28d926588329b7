-- Words of blocks, and images of keys.
use Rattle.std.proofs.Common.{◌≡◌, ◌∙◌, ℕ, ◌+◌, ◌*◌, ◌/◌, ◌%◌, ◌^◌, ◌<◌, List, map, length, slice_index, refl, sym}
use Rattle.std.proofs.Common.{arith}
use Rattle.rand_chacha.specs.Block.{add32, double_rounds, initial_state, block_word}
use Rattle.rand_chacha.specs.Lanes.{lane}
use Rattle.cut_draws.specs.Source.{Source, word_of}
use Rattle.cut_arrivals.specs.blocks.Images.{image_at, place_in}
use Rattle.cut_arrivals.proofs.BlocksLanes.{lanes_are}

pub word_below : (d : Source) (place : ℕ) → word_of d place < 2 ^ 32
unfolding block_word
word_below d place = omega arith

pub image_is : (d : Source) (place : ℕ) → image_at d place ≡ word_of d place / 4
image_is d place =
    grind (arith, word_below)

-- a word of one block, from its states before and after the rounds
one_word : (key : List ℕ) (block stream word : ℕ) (first last : List ℕ) → first ≡ initial_state key block stream
    → last ≡ double_rounds 4 first → add32 (slice_index last word) (slice_index first word)
    ≡ block_word 4 key block stream word
unfolding block_word
one_word key block stream word first last begins ends = rw (ends, begins) refl

-- the high words of a key of four blocks
pub word_vector : (d : Source) (first last : List (List ℕ)) (blocks word : List ℕ) (q : ℕ) → q < 8
    → length blocks ≡ 4 → length word ≡ 4
    → ((j : ℕ) → j < 4 → lane j first ≡ initial_state d.key (slice_index blocks j) d.stream)
    → ((j : ℕ) → j < 4 → lane j last ≡ double_rounds 4 (lane j first))
    → ((j : ℕ) → j < 4 → slice_index word j ≡ add32 (slice_index (lane j last) (2 * q))
    (slice_index (lane j first) (2 * q)))
    → word ≡ map (λ b. word_of d (place_in b q)) blocks
word_vector d first last blocks word q few four own begins ends sums =
    lanes_are (λ b. word_of d (place_in b q)) word own blocks four (λ j low.
    let b : ℕ = slice_index blocks j in
    let block : (16 * b + 2 * q) / 16 ≡ b = omega (arith, few) in
    let place : (16 * b + 2 * q) % 16 ≡ 2 * q = omega (arith, few) in
    sums j low ∙ one_word d.key b d.stream (2 * q) (lane j first) (lane j last) (begins j low) (ends j low)
    ∙ sym (rw (block, place) refl))
