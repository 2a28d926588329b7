-- Images of copies that stand one after another, and the least of them.
use Rattle.std.proofs.Common.{◌≡◌, ◌∙◌, inl, inr, ℕ, ◌+◌, ◌-◌, ◌*◌, ◌^◌, ◌<◌, List, [], ◌∷◌, ◌++◌, length, map}
use Rattle.std.proofs.Common.{slice_index, slice_index_or, refl, ap, sym, subst, arith}
use Rattle.std.proofs.lemmas.Bool.{cases_lt}
use Rattle.std.proofs.lemmas.Nat.{mul-add-lt}
use Rattle.std.proofs.lemmas.List.{get_or-map, length-map, length-append, get_or_append_left, get_or-append_right}
use Rattle.std.proofs.lemmas.List.{ext_get_or}
use Rattle.cut_draws.specs.Source.{Source}
unfoldable use Rattle.cut_arrivals.specs.blocks.Images.{least_image, least_over}
use Rattle.cut_arrivals.specs.blocks.Images.{eight, image_at, place_in, row_of, ImagesAreBelowNever, CopiesAreApart}
use Rattle.cut_arrivals.proofs.Eights.{eight_moved}
use Rattle.cut_arrivals.specs.declared.receivers.trial.Trial.{Trial}
use Rattle.cut_arrivals.specs.receivers.inside.Places.{image_for}
use Rattle.cut_arrivals.specs.receivers.inside.Times.{AreLeast, AreCopies}
use Rattle.cut_arrivals.proofs.Drawn.{image_drawn, one_image}

-- the images of a block for one copy
abbrev of_copy : Trial → List ℕ → ℕ → ℕ → List (List ℕ)
of_copy t js c block = eight (least_image t.blocks.now 1 block) (map (λ j. row_of c j) js)

-- no copy yet
pub copies_none : (t : Trial) (js : List ℕ) (drawn : List (List (List ℕ))) → drawn ≡ [] → AreCopies t js 0 drawn
copies_none t js drawn none = record {
  many = omega (arith, ap (λ (vs : List (List (List ℕ))). length vs) none);
  each = λ c b few inside. absurd (omega (arith, few));
}

-- one copy more
pub copies_more : (t : Trial) (js : List ℕ) (copies : ℕ) (old new : List (List (List ℕ))) → AreCopies t js copies old
    → new ≡ old ++ map (of_copy t js copies) t.candidates.now.blocks.items → AreCopies t js (copies + 1) new
copies_more t js copies old new are is =
    let blocks : List ℕ = t.candidates.now.blocks.items in
    let n : ℕ = length blocks in
    let others : List (List (List ℕ)) = map (of_copy t js copies) blocks in
    let turned : (copies + 1) * n ≡ copies * n + n = grind arith in
    record {
      many = ap (λ (vs : List (List (List ℕ))). length vs) is ∙ length-append old others
          ∙ (let e : length old + length others ≡ copies * n + n = omega
          (arith, are.many, length-map blocks (of_copy t js copies)) in e) ∙ sym turned;
      each = λ c b few inside. ap (λ (vs : List (List (List ℕ))). slice_index_or vs (c * n + b) []) is
          ∙ elim (cases_lt c copies) [
            | inl before ↦ get_or_append_left old others [] (c * n + b)
                (omega (arith, are.many, mul-add-lt c n b copies before inside, swapped n copies))
                ∙ are.each c b before inside
            | inr after ↦ (let last : c ≡ copies = omega (arith, few, after) in
                ap (λ (m : ℕ). slice_index_or (old ++ others) (m * n + b) []) last
                ∙ get_or-append_right old others (copies * n) (copies * n + b) [] are.many (omega arith)
                ∙ ap (λ (m : ℕ). slice_index_or others m [])
                (let e : copies * n + b - copies * n ≡ b = omega arith in e)
                ∙ get_or-map (of_copy t js copies) blocks b 0 [] inside
                ∙ ap (λ (m : ℕ). of_copy t js m (slice_index blocks b)) (sym last))
          ];
    }
  where
    swapped : (a b : ℕ) → a * b ≡ b * a
    swapped a b = grind arith

-- the images of a copy are as far from those of the first as its row is
copy_moved : CopiesAreApart → ImagesAreBelowNever → (d : Source) (c block : ℕ) (js : List ℕ)
    → eight (least_image d 1 block) (map (λ j. row_of c j) js)
    ≡ eight (λ q row. image_at d (place_in (row + (block + c * 2 ^ 24)) q)) (map (λ j. row_of 0 j) js)
copy_moved apart below d c block js =
    let image : ℕ → ℕ → ℕ = λ q row. image_at d (place_in (row + (block + c * 2 ^ 24)) q) in
    eight_moved (least_image d 1 block) (λ j. row_of c j) js
    ∙ ap (λ (f : ℕ → ℕ → ℕ). eight f js) (λ i q j. same q j i)
    ∙ sym (eight_moved image (λ j. row_of 0 j) js)
  where
    same : (q j : ℕ) → least_image d 1 block q (row_of c j)
        ≡ image_at d (place_in (row_of 0 j + (block + c * 2 ^ 24)) q)
    same q j = one_image below d block q (row_of c j)
        ∙ ap (λ (b : ℕ). image_at d (place_in b q))
        (let e : row_of c j + block ≡ row_of 0 j + (block + c * 2 ^ 24) = omega (arith, apart c j) in e)

least_same : (d : Source) (copies block : ℕ) (rows : List ℕ)
    → eight (least_over (λ c q row. image_at d (place_in (row + (block + c * 2 ^ 24)) q)) copies) rows
    ≡ eight (least_image d copies block) rows
unfolding least_image least_over
least_same d copies block rows = refl

-- the least over the copies
pub least_are : CopiesAreApart → ImagesAreBelowNever → (t : Trial) (js : List ℕ) (n m : ℕ)
    (kept least : List (List (List ℕ))) → length js ≡ 4 → AreCopies t js t.copies kept
    → n ≡ length t.candidates.now.blocks.items → m ≡ t.copies → length least ≡ n
    → ((b : ℕ) (f : ℕ → ℕ → ℕ → ℕ) (rows : List ℕ) → b < n → length rows ≡ 4
    → ((c : ℕ) → c < m → slice_index_or kept (c * n + b) [] ≡ eight (f c) rows)
    → slice_index_or least b [] ≡ eight (least_over f m) rows)
    → AreLeast t js least
least_are apart below t js n m kept least four are n_is m_is many each =
    let d : Source = t.blocks.now in
    let blocks : List ℕ = t.candidates.now.blocks.items in
    let rows : List ℕ = map (λ j. row_of 0 j) js in
    let all : ℕ → List (List ℕ) = λ block. eight (least_image d t.copies block) rows in
    ext_get_or [] least (map all blocks) (many ∙ n_is ∙ sym (length-map blocks all)) (λ b low.
    let inside : b < length blocks = omega (arith, low, many, n_is) in
    let block : ℕ = slice_index blocks b in
    let image : ℕ → ℕ → ℕ → ℕ = λ c q row. image_at d (place_in (row + (block + c * 2 ^ 24)) q) in
    each b image rows (omega (arith, inside, n_is)) (length-map js (λ j. row_of 0 j) ∙ four)
    (λ c few. ap (λ (k : ℕ). slice_index_or kept (c * k + b) []) n_is
    ∙ are.each c b (omega (arith, few, m_is)) inside ∙ copy_moved apart below d c block js)
    ∙ ap (λ (k : ℕ). eight (least_over image k) rows) m_is
    ∙ least_same d t.copies block rows ∙ sym (get_or-map all blocks b 0 [] inside))

-- a key of a copy in lane i
pub copy_at : ImagesAreBelowNever → (t : Trial) (js : List ℕ) (kept : List (List (List ℕ))) (c b q i : ℕ)
    → length js ≡ 4 → AreCopies t js t.copies kept → c < t.copies → b < length t.candidates.now.blocks.items → q < 8
    → i < 4
    → image_for kept (c * length t.candidates.now.blocks.items + b) q i
    ≡ image_at t.blocks.now (place_in (row_of c (slice_index js i) + slice_index t.candidates.now.blocks.items b) q)
copy_at below t js kept c b q i four are few inside eighth low =
    let block : ℕ = slice_index t.candidates.now.blocks.items b in
    ap (λ (v : List (List ℕ)). slice_index (slice_index_or v q []) i) (are.each c b few inside)
    ∙ image_drawn (λ block q row. least_image t.blocks.now 1 block q row) (λ j. row_of c j) js (block ∷ []) 0 q i four
    (omega arith) eighth low
    ∙ one_image below t.blocks.now block q (row_of c (slice_index js i))

-- and of all that are kept, whose blocks are the candidates'
pub copies_kept : ImagesAreBelowNever → (t : Trial) (js : List ℕ) (kept : List (List (List ℕ))) (blocks : List ℕ)
    (i : ℕ) → length js ≡ 4 → AreCopies t js t.copies kept → blocks ≡ t.candidates.now.blocks.items → i < 4
    → (c b q : ℕ) → c < t.copies → b < length blocks → q < 8
    → image_for kept (c * length blocks + b) q i
    ≡ image_at t.blocks.now (place_in (row_of c (slice_index js i) + slice_index blocks b) q)
copies_kept below t js kept blocks i four are is low =
    subst (λ (bs : List ℕ). (c b q : ℕ) → c < t.copies → b < length bs → q < 8
    → image_for kept (c * length bs + b) q i
    ≡ image_at t.blocks.now (place_in (row_of c (slice_index js i) + slice_index bs b) q)) (sym is)
    (λ c b q few inside eighth. copy_at below t js kept c b q i four are few inside eighth low)
