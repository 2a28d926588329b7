-- Images that stand one after another, read where they stand.
use Rattle.std.proofs.Common.{◌≡◌, ◌∙◌, ℕ, zero, suc, ◌+◌, ◌-◌, ◌*◌, ◌<◌, ◌≤◌, List, [], ◌∷◌, ◌++◌, length, map, take}
use Rattle.std.proofs.Common.{drop, slice_index, slice_index_or, length-append, ap, refl, sym, subst, arith}
use Rattle.std.specs.List.{All, flat_map}
use Rattle.std.proofs.lemmas.List.{drop_more, length-map, get_or-map, get_or_append_left, get_or-append_right}
use Rattle.std.proofs.lemmas.List.{length-take, length-drop}
use Rattle.cut_arrivals.specs.lanes.Lanes.{lane}
use Rattle.cut_arrivals.specs.blocks.Images.{eight, least_image, row_of}
use Rattle.cut_arrivals.specs.declared.candidates.key_places.KeyPlace.{KeyPlace}
use Rattle.cut_arrivals.specs.declared.receivers.images.Images.{Images}
use Rattle.cut_arrivals.specs.candidates.KeyPlaces.{key_in, index_of, AreConsecutive}
use Rattle.cut_arrivals.specs.receivers.inside.Times.{reception_in, image_of_key, AreKeyImages}
use Rattle.cut_arrivals.proofs.Drawn.{image_drawn}

-- eight elements in each row
abbrev AreEights : {X : Type 0} → List (List X) → Type 0
AreEights rows = (r : ℕ) → r < length rows → length (slice_index_or rows r []) ≡ 8

-- a key of a block, where the blocks' keys stand one after another
flat_at : {X : Type 0} (rows : List (List X)) (b q : ℕ) (d : X) → AreEights rows → b < length rows → q < 8
    → slice_index_or (flat_map (λ row. row) rows) (8 * b + q) d ≡ slice_index_or (slice_index_or rows b []) q d
flat_at [] b q d long inside eighth = absurd (omega (arith, inside))
flat_at (row ∷ rows) zero q d long inside eighth =
    ap (λ n. slice_index_or (row ++ flat_map (λ r. r) rows) n d) (omega arith)
    ∙ get_or_append_left row (flat_map (λ r. r) rows) d q (omega (arith, eighth, long 0 (omega arith)))
flat_at (row ∷ rows) (suc b) q d long inside eighth =
    let many : length row ≡ 8 = long 0 (omega arith) in
    get_or-append_right row (flat_map (λ r. r) rows) 8 (8 * suc b + q) d many (omega arith)
    ∙ ap (λ n. slice_index_or (flat_map (λ r. r) rows) n d) (omega arith)
    ∙ flat_at rows b q d (λ r low. long (suc r) (omega (arith, low))) (omega (arith, inside)) eighth

flat_length : {X : Type 0} (rows : List (List X)) → AreEights rows → length (flat_map (λ row. row) rows)
    ≡ 8 * length rows
flat_length [] long = refl
flat_length (row ∷ rows) long =
    let rest : length (flat_map (λ r. r) rows) ≡ 8 * length rows =
    flat_length rows (λ r low. long (suc r) (omega (arith, low))) in
    let many : length row ≡ 8 = long 0 (omega arith) in
    length-append row (flat_map (λ r. r) rows) ∙ omega (arith, rest, many)

-- the lanes of the vectors from a place on
lanes_from : {X : Type 0} (flat : List (List ℕ)) (f : X → ℕ) (i start : ℕ) (xs : List X)
    → start + length xs ≤ length flat
    → ((j : ℕ) (d : X) → j < length xs
    → slice_index (slice_index_or flat (start + j) []) i ≡ f (slice_index_or xs j d))
    → lane i (take (length xs) (drop start flat)) ≡ map f xs
lanes_from flat f i start [] fits are = refl
lanes_from flat f i start (x ∷ xs) fits are =
    let first : slice_index (slice_index_or flat start []) i ≡ f x =
    ap (λ n. slice_index (slice_index_or flat n []) i) (omega arith) ∙ are 0 x (omega arith) in
    ap (λ vs. lane i (take (suc (length xs)) vs)) (drop_more flat start [] (omega (arith, fits)))
    ∙ ap (λ n. n ∷ lane i (take (length xs) (drop (start + 1) flat))) first
    ∙ ap (λ ns. f x ∷ ns) (lanes_from flat f i (start + 1) xs (omega (arith, fits)) (λ j d low.
    ap (λ n. slice_index (slice_index_or flat n []) i) (omega arith) ∙ are (suc j) d (omega (arith, low))))

abbrev rows_of : Images → List (List (List ℕ))
rows_of images = map (λ block. eight (least_image images.trial.blocks.now images.trial.copies block)
    (map (λ j. row_of 0 j) images.receivers)) images.trial.candidates.now.blocks.items

rows_are_eights : (f : ℕ → ℕ → ℕ → ℕ) (xs blocks : List ℕ) → AreEights (map (λ block. eight (f block) xs) blocks)
rows_are_eights f xs blocks r low =
    ap length (get_or-map (λ block. eight (f block) xs) blocks r 0 [] (omega (arith, low, length-map blocks (λ block. eight (f block) xs))))

-- what a key place has, where the images of all blocks stand one after another
flat_image : (images : Images) (i : ℕ) (key_place : KeyPlace) → i < 4
    → key_place.block < length images.trial.candidates.now.blocks.items → key_place.key < 8
    → slice_index (slice_index_or (flat_map (λ row. row) (rows_of images)) (index_of key_place) []) i
    ≡ image_of_key (reception_in images i) (key_in images.trial.candidates.now.blocks.items key_place)
flat_image images i key_place low inside eighth =
    let blocks : List ℕ = images.trial.candidates.now.blocks.items in
    let f : ℕ → ℕ → ℕ → ℕ = λ block q row. least_image images.trial.blocks.now images.trial.copies block q row in
    ap (λ (v : List ℕ). slice_index v i) (flat_at (rows_of images) key_place.block key_place.key []
    (rows_are_eights f (map (λ j. row_of 0 j) images.receivers) blocks)
    (omega (arith, inside, length-map blocks (λ block. eight (f block) (map (λ j. row_of 0 j) images.receivers)))) eighth)
    ∙ image_drawn f (λ j. row_of 0 j) images.receivers blocks key_place.block key_place.key i images.four inside eighth low

-- the images of key places that stand one after another
module _ (images : Images) (first : ℕ) (key_places : List KeyPlace)
    (within : All (λ key_place. key_place.block < length images.trial.candidates.now.blocks.items) key_places)
    (keys : All (λ key_place. key_place.key < 8) key_places) (consecutive : AreConsecutive first key_places)
    (flat : List (List ℕ)) (is_flat : flat ≡ flat_map (λ row. row) images.drawn.now) where
  abbrev f : ℕ → ℕ → ℕ → ℕ
  f block q row = least_image images.trial.blocks.now images.trial.copies block q row

  abbrev blocks : List ℕ
  blocks = images.trial.candidates.now.blocks.items

  flat_is : flat ≡ flat_map (λ row. row) (rows_of images)
  flat_is = is_flat ∙ ap (λ rows. flat_map (λ row. row) rows) images.are_drawn

  long : length flat ≡ 8 * length blocks
  long = ap length flat_is ∙ flat_length (rows_of images) (rows_are_eights f (map (λ j. row_of 0 j) images.receivers)
      blocks) ∙ ap (λ n. 8 * n) (length-map blocks (λ block. eight (f block) (map (λ j. row_of 0 j) images.receivers)))

  pub consecutive_fit : first + length key_places ≤ length flat
  consecutive_fit =
      let last : ℕ = length key_places - 1 in
      let d : KeyPlace = record { block = 0; key = 0 } in
      let low : last < length key_places = omega (arith, consecutive.some) in
      omega (arith, consecutive.each last d low, within last d low, keys last d low, long, consecutive.some)

  pub consecutive_are : AreKeyImages images key_places (take (first + length key_places - first) (drop first flat))
  consecutive_are =
      let many : first + length key_places - first ≡ length key_places = omega arith in
      let taken : length (take (length key_places) (drop first flat)) ≡ length key_places =
      omega (arith, length-take (length key_places) (drop first flat), length-drop first flat, consecutive_fit) in
      subst (λ n. AreKeyImages images key_places (take n (drop first flat))) (sym many) (record {
        lanes = λ i low. lanes_from flat (λ key_place. image_of_key (reception_in images i) (key_in blocks key_place)) i
            first key_places consecutive_fit (λ j d inside.
            ap (λ n. slice_index (slice_index_or flat n []) i) (sym (consecutive.each j d inside))
            ∙ ap (λ vs. slice_index (slice_index_or vs (index_of (slice_index_or key_places j d)) []) i) flat_is
            ∙ flat_image images i (slice_index_or key_places j d) low (within j d inside) (keys j d inside));
        many = taken;
      })
