-- Counts of deliveries by the key places of their edges.
use Rattle.std.proofs.Common.{◌≡◌, ◌∙◌, ℕ, ◌+◌, ◌*◌, ◌^◌, ◌<◌, ◌≤◌, ◌==◌, Bool, nat_lt, nat_le, cond}
use Rattle.std.proofs.Common.{List, [], ◌∷◌, ◌++◌, length, slice_index_or, refl, ap, sym}
use Rattle.std.proofs.Common.{zero-add, arith}
use Rattle.std.specs.List.{All, count_by, range_with_len, flat_map}
use Rattle.std.proofs.lemmas.Bool.Decides.{nat_tests}
use Rattle.std.proofs.lemmas.Grind.{flat_map-append}
use Rattle.std.proofs.lemmas.List.{append-nil, length-map}
use Rattle.std.proofs.lemmas.List.Sums.{count_by-le-length, sum_by-cons}
use Rattle.cut_lists.proofs.Maps.{count_by-map, maps_agree}
use Rattle.cut_lists.proofs.Ranges.{range_with_len_more}
use Rattle.cut_rings.specs.declared.edge.Edge.{Edge}
use Rattle.cut_draws.specs.declared.delivery.Delivery.{Delivery}
use Rattle.cut_draws.specs.DeliveryOrder.{copies_of}
use Rattle.cut_arrivals.specs.blocks.Images.{image_at, place_in, row_of, DeliveriesStandInBlocks}
use Rattle.cut_arrivals.specs.proposals.Reception.{Reception, deliveries_of, image_of}
use Rattle.cut_arrivals.specs.declared.candidates.key_places.KeyPlace.{KeyPlace}
use Rattle.cut_arrivals.specs.candidates.KeyPlaces.{AreKeyPlaces, key_in, key_of}
use Rattle.cut_arrivals.specs.receivers.inside.Places.{image_in, AreImagesOf}

-- of the first copies of all edges how many have an image below a bound
abbrev pub count_below : Reception → ℕ → ℕ → ℕ
count_below x copies bound =
    count_by (λ y. nat_lt (image_of x y) bound) (flat_map (λ c. copies_of x.edges c) (range_with_len 0 copies))

count_append : {X : Type 0} (p : X → Bool) (xs ys : List X) → count_by p (xs ++ ys) ≡ count_by p xs + count_by p ys
count_append p [] ys = sym (zero-add (count_by p ys))
count_append p (x ∷ xs) ys =
    search (arith, sum_by-cons, count_append p xs ys)

-- tests that agree on all elements
count_agree : {X : Type 0} (p q : X → Bool) (xs : List X) → All (λ x. p x ≡ q x) xs → count_by p xs ≡ count_by q xs
count_agree p q xs same =
    sym (count_by-map (λ b. b) p xs) ∙ ap (λ (bs : List Bool). count_by (λ b. b) bs) (maps_agree p q xs same)
    ∙ count_by-map (λ b. b) q xs

-- in lane i of the images of a copy, as many key places are below a bound as deliveries of that copy
pub copy_counted : DeliveriesStandInBlocks
    → (x : Reception) (c i bound : ℕ) (blocks : List ℕ) (key_places : List KeyPlace) (images : List (List (List ℕ)))
    → AreImagesOf x c i blocks images → AreKeyPlaces x.rule.k blocks x.edges key_places
    → count_by (λ key_place. nat_lt (image_in images i key_place) bound) key_places
    ≡ count_by (λ y. nat_lt (image_of x y) bound)
    (copies_of x.edges c)
copy_counted stand x c i bound blocks key_places images drawn are =
    let k : ℕ = x.rule.k in
    let image : ℕ × ℕ → ℕ = λ key. image_at x.source (place_in (row_of c x.receiver + key.0) key.1) in
    let test : ℕ × ℕ → Bool = λ key. nat_lt (image key) bound in
    let of : Edge → Delivery = λ e. record { edge = e; copy = c } in
    let at : (key_place : KeyPlace) → key_place.block < length blocks → key_place.key < 8
    → image_in images i key_place ≡ image (key_in blocks key_place) =
    λ key_place inside few. drawn key_place.block key_place.key inside few in
    count_agree (λ key_place. nat_lt (image_in images i key_place) bound) (λ key_place. test (key_in blocks key_place))
    key_places
    (λ n d inside. ap (λ (m : ℕ). nat_lt m bound) (at (slice_index_or key_places n d) (are.within n d inside)
    (are.eight n d inside)))
    ∙ sym (count_by-map test (λ key_place. key_in blocks key_place) key_places)
    ∙ ap (λ (ks : List (ℕ × ℕ)). count_by test ks) are.keys
    ∙ count_by-map test (λ e. key_of k e) x.edges
    ∙ count_agree (λ e. test (key_of k e)) (λ e. nat_lt (image_of x (of e)) bound) x.edges
    (λ n d inside. ap (λ (m : ℕ). nat_lt (image_at x.source m) bound) (sym (stand x.receiver k (of
    (slice_index_or x.edges n d)))))
    ∙ sym (count_by-map (λ y. nat_lt (image_of x y) bound) of x.edges)

-- one copy more
pub below_more : (x : Reception) (c bound : ℕ)
    → count_below x (c + 1) bound ≡ count_below x c bound + count_by (λ y. nat_lt (image_of x y) bound)
    (copies_of x.edges c)
below_more x c bound =
    let p : Delivery → Bool = λ y. nat_lt (image_of x y) bound in
    let f : ℕ → List Delivery = λ c. copies_of x.edges c in
    let more : count_below x (c + 1) bound ≡ count_by p (flat_map f (range_with_len 0 c)) + count_by p
    (copies_of x.edges c ++ []) =
    ap (λ (cs : List ℕ). count_by p (flat_map f cs)) (range_with_len_more 0 c c (omega arith))
    ∙ ap (λ (ys : List Delivery). count_by p ys) (flat_map-append f (range_with_len 0 c) (c ∷ []))
    ∙ count_append p (flat_map f (range_with_len 0 c)) (flat_map f (c ∷ [])) in
    more ∙ ap (λ (ys : List Delivery). count_below x c bound + count_by p ys) (append-nil (copies_of x.edges c))

-- what has an image up to a time has it before the next one, and is before it or at it
pub count_until : (f : Delivery → ℕ) (time : ℕ) (ys : List Delivery)
    → count_by (λ y. nat_le (f y) time) ys ≡ count_by (λ y. nat_lt (f y) (time + 1)) ys
count_until f time ys = grind arith

one_at : (m time : ℕ) → cond {A = ℕ} (nat_lt m (time + 1)) 1 0 ≡ cond (nat_lt m time) 1 0 + cond (m == time) 1 0
one_at m time = grind arith

pub count_at : (f : Delivery → ℕ) (time : ℕ) (ys : List Delivery)
    → count_by (λ y. nat_lt (f y) (time + 1)) ys ≡ count_by (λ y. nat_lt (f y) time) ys + count_by (λ y. f y == time) ys
count_at f time [] = refl
count_at f time (y ∷ ys) =
    search (arith, sum_by-cons, one_at, count_at f time ys)

pub copy_more : DeliveriesStandInBlocks
    → (x : Reception) (c i bound : ℕ) (blocks : List ℕ) (key_places : List KeyPlace)
    (images : List (List (List ℕ))) (old new : ℕ)
    → AreImagesOf x c i blocks images → AreKeyPlaces x.rule.k blocks x.edges key_places
    → new ≡ old + count_by (λ key_place. nat_lt (image_in images i key_place) bound) key_places
    → old ≡ count_below x c bound
    → new ≡ count_below x (c + 1) bound
copy_more stand x c i bound blocks key_places images old new drawn are more is =
    omega (
      arith,
      more,
      is,
      copy_counted stand x c i bound blocks key_places images drawn are,
      below_more x c bound,
    )

pub few_more : (c k : ℕ) (blocks : List ℕ) (edges : List Edge) (key_places : List KeyPlace) (test : KeyPlace
    → Bool) (old new : ℕ) → AreKeyPlaces k blocks edges key_places
    → length edges ≤ 2 ^ 16 → new ≡ old + count_by test key_places → old ≤ c * 2 ^ 16 → new ≤ (c + 1) * 2 ^ 16
few_more c k blocks edges key_places test old new are few more is =
    grind (arith, length-map, count_by-le-length)

-- of two counts the later one is the next number exactly where one delivery has the image of the time
pub next_count : (x : Reception) (time before until : ℕ) → before ≡ count_below x x.copies time
    → until ≡ count_below x x.copies (time + 1)
    → (until == before + 1) ≡ (count_by (λ y. image_of x y == time) (deliveries_of x) == 1)
next_count x time before until before_is until_is =
    let n : ℕ = count_by (λ y. image_of x y == time) (deliveries_of x) in
    let more : until ≡ before + n =
    until_is ∙ count_at (λ y. image_of x y) time (deliveries_of x) ∙ ap (λ (m : ℕ). m + n) (sym before_is) in
    one_apart until before n more
  where
    one_apart : (until before n : ℕ) → until ≡ before + n → (until == before + 1) ≡ (n == 1)
    one_apart until before n more = grind (arith, nat_tests, more)
