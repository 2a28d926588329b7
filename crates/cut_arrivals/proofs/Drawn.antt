-- Images of keys in the blocks that are drawn.
use Rattle.std.proofs.Common.{◌≡◌, ◌∙◌, inl, inr, ℕ, ◌+◌, ◌-◌, ◌<◌, ◌≤◌, List, [], ◌++◌, length, map, take, drop}
use Rattle.std.proofs.Common.{slice_index, slice_index_or, ap, sym, arith}
use Rattle.std.proofs.lemmas.Bool.{cases_lt}
use Rattle.std.proofs.lemmas.List.{get_or-map, length-map, length-take, length-drop, get_or-take, get_or-drop}
use Rattle.std.proofs.lemmas.List.{get_or_append_left, get_or-append_right}
use Rattle.cut_draws.specs.Source.{Source}
unfoldable use Rattle.cut_arrivals.specs.blocks.Images.{least_image}
use Rattle.cut_arrivals.specs.blocks.Images.{eight, image_at, place_in, row_of, ImagesAreBelowNever}
use Rattle.cut_arrivals.specs.proposals.Reception.{Reception}
use Rattle.cut_arrivals.specs.receivers.inside.Places.{image_for, AreImagesOf}

-- key q of the b-th block in lane i
pub image_drawn : (f : ℕ → ℕ → ℕ → ℕ) (g : ℕ → ℕ) (js blocks : List ℕ) (b q i : ℕ) → length js ≡ 4
    → b < length blocks → q < 8 → i < 4
    → slice_index (slice_index_or (slice_index_or (map (λ block. eight (f block) (map g js)) blocks) b []) q []) i
    ≡ f (slice_index blocks b) q (g (slice_index js i))
image_drawn f g js blocks b q i four inside few low =
    grind (arith, get_or-map, length-map js g, get_or-map g js i 0 0)

-- the image of a key of one copy
pub one_image : ImagesAreBelowNever → (d : Source) (b q row : ℕ)
    → least_image d 1 b q row ≡ image_at d (place_in (row + b) q)
unfolding least_image
one_image below d b q row =
    grind arith

known_at : {X : Type 0} (from known : ℕ) (kept others : List X) (b : ℕ) (d : X) → from + known ≤ length kept → b < known
    → slice_index_or (take known (drop from kept) ++ others) b d ≡ slice_index_or kept (from + b) d
known_at from known kept others b d whole low =
    get_or_append_left (take known (drop from kept)) others d b
    (omega (arith, whole, low, length-take known (drop from kept), length-drop from kept))
    ∙ get_or-take known (drop from kept) b d low ∙ get_or-drop from kept b d

after_at : {X : Type 0} (from known : ℕ) (kept others : List X) (b : ℕ) (d : X) → from + known ≤ length kept → known ≤ b
    → slice_index_or (take known (drop from kept) ++ others) b d ≡ slice_index_or others (b - known) d
after_at from known kept others b d whole after =
    get_or-append_right (take known (drop from kept)) others known b d
    (omega (arith, whole, length-take known (drop from kept), length-drop from kept)) after

dropped_at : (known : ℕ) (blocks : List ℕ) (b : ℕ) → known ≤ b
    → slice_index (drop known blocks) (b - known) ≡ slice_index blocks b
dropped_at known blocks b after =
    get_or-drop known blocks (b - known) 0 ∙ ap (λ (n : ℕ). slice_index blocks n) (omega (arith, after))

-- the images of a copy: those of the first blocks that are known, and those of the others that are drawn
pub drawn_after : ImagesAreBelowNever → (x : Reception) (c i from known : ℕ) (js blocks : List ℕ)
    (kept images : List (List (List ℕ)))
    → length js ≡ 4 → i < 4 → x.receiver ≡ slice_index js i → from + known ≤ length kept → known ≤ length blocks
    → images ≡ take known (drop from kept)
    ++ map (λ block. eight (least_image x.source 1 block) (map (λ j. row_of c j) js)) (drop known blocks)
    → ((b q : ℕ) → b < known → q < 8
    → image_for kept (from + b) q i ≡ image_at x.source (place_in (row_of c x.receiver + slice_index blocks b) q))
    → AreImagesOf x c i blocks images
drawn_after below x c i from known js blocks kept images four low who whole few are knows b q inside eighth =
    elim (cases_lt b known) [
      | inl first ↦ ap (λ (vs : List (List (List ℕ))). image_for vs b q i) are
          ∙ ap (λ (v : List (List ℕ)). slice_index (slice_index_or v q []) i) (known_at from known kept _ b [] whole first)
          ∙ knows b q first eighth
      | inr after ↦ ap (λ (vs : List (List (List ℕ))). image_for vs b q i) are
          ∙ ap (λ (v : List (List ℕ)). slice_index (slice_index_or v q []) i) (after_at from known kept _ b [] whole after)
          ∙ image_drawn (λ block q row. least_image x.source 1 block q row)
          (λ j. row_of c j) js (drop known blocks) (b - known) q i four
          (omega (arith, inside, after, few, length-drop known blocks)) eighth low
          ∙ one_image below x.source (slice_index (drop known blocks) (b - known)) q (row_of c (slice_index js i))
          ∙ ap (λ (j : ℕ). image_at x.source (place_in (row_of c j + slice_index (drop known blocks) (b - known)) q))
          (sym who)
          ∙ ap (λ (n : ℕ). image_at x.source (place_in (row_of c x.receiver + n) q))
          (dropped_at known blocks b after)
    ]
