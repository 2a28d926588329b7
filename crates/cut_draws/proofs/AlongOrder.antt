-- Images along an order of deliveries.
use Rattle.std.proofs.Common.{◌≡◌, ◌∙◌, ℕ, zero, suc, ◌+◌, ◌*◌, ◌<◌, ◌≤◌, Bool, true, false, List, [], ◌∷◌, length, map}
use Rattle.std.proofs.Common.{get_or, fold, min, if◌then◌else◌, zero-le, refl, ap, sym, inl, inr, arith}
use Rattle.std.specs.List.{All, Contains, range_with_len}
use Rattle.std.proofs.lemmas.Bool.{cases_lt}
use Rattle.std.proofs.lemmas.List.{length-map, get_or-map, get_or_past}
use Rattle.std.proofs.lemmas.List.Elements.{All-head, All-tail, Contains-get_or}
use Rattle.std.proofs.lemmas.List.Sorted.{Contains-permutation, IsPermutation-sym}
use Rattle.cut_lists.proofs.Orders.{range_is_below}
use Rattle.cut_rings.specs.declared.edge.Edge.{Edge}
use Rattle.cut_rings.specs.Edges.{set_of}
use Rattle.cut_draws.specs.declared.delivery.Delivery.{Delivery}
use Rattle.cut_draws.specs.Source.{Source}
use Rattle.cut_draws.specs.DeliveryOrder.{all_deliveries, delivery_rank, IsDeliveryOrder}
use Rattle.cut_draws.specs.Laws.{time_of, first_time, image_of, least_image, image_at_time, AreImagesBelow, RisesTo}
use Rattle.cut_draws.proofs.FirstTimes.{copy_of}
use Rattle.cut_draws.proofs.Heard.{copy_is_delivery}
use Rattle.cut_draws.proofs.KeyImages.{before_by_image}
use Rattle.cut_draws.proofs.Sorting.{at_rank}

-- any delivery, for places past the end
abbrev any : Delivery
any = record { edge = record { ring = 0; subject = 0 }; copy = 0 }

pub image_at_rank : (d : Source) (receiver k : ℕ) (edges : List Edge) (copies : ℕ) (order : List Delivery) (last : ℕ)
    (x : Delivery)
    → IsDeliveryOrder d receiver k edges copies order → Contains (all_deliveries edges copies) x
    → image_at_time d receiver k order last (time_of d receiver k edges copies x) ≡ image_of d receiver k x
image_at_rank d receiver k edges copies order last x is among =
    let rank : ℕ = delivery_rank d receiver k edges copies x in
    let stands = at_rank d receiver k edges copies order x any is among in
    ap (image_at_time d receiver k order last) (let e : rank + 1 ≡ suc rank = omega arith in e)
    ∙ get_or-map (image_of d receiver k) order rank any last stands.0
    ∙ ap (image_of d receiver k) stands.1

-- the images of two places of an order
rising_places : (d : Source) (receiver k : ℕ) (edges : List Edge) (copies : ℕ) (order : List Delivery)
    → IsDeliveryOrder d receiver k edges copies order → (i j : ℕ) → i ≤ j → j < length order
    → image_of d receiver k (get_or order i any) ≤ image_of d receiver k (get_or order j any)
rising_places d receiver k edges copies order is i j before within =
    let x : Delivery = get_or order i any in
    let y : Delivery = get_or order j any in
    elim (cases_lt (image_of d receiver k y) (image_of d receiver k x)) [
      | inl lesser ↦ (
          let among = Contains-permutation order (all_deliveries edges copies) y (IsPermutation-sym _ _ is.each_once)
          (Contains-get_or order j any within) in
          let sooner = before_by_image d receiver k edges copies y x among lesser in
          omega (arith, sooner, is.ranks i (omega arith) any, is.ranks j within any))
      | inr rises ↦ rises
    ]

pub images_rise : (d : Source) (receiver k : ℕ) (edges : List Edge) (copies : ℕ) (order : List Delivery) (last : ℕ)
    → IsDeliveryOrder d receiver k edges copies order → AreImagesBelow d receiver k last
    → RisesTo (copies * length edges + 1) last (image_at_time d receiver k order last)
images_rise d receiver k edges copies order last is low = record { rises = rises; below = below; past = past }
  where
    image : Delivery → ℕ
    image = image_of d receiver k

    inside : (n : ℕ) → n < length order → image_at_time d receiver k order last (suc n) ≡ image (get_or order n any)
    inside n within = get_or-map image order n any last within

    past : (n : ℕ) → copies * length edges + 1 ≤ n → image_at_time d receiver k order last n ≡ last
    past n far = get_or_past (0 ∷ map image order) n last (omega (arith, far, is.count, length-map order image))

    below : (n : ℕ) → n < copies * length edges + 1 → image_at_time d receiver k order last n < last
    below zero within = omega (arith, low any)
    below (suc n) within = omega (arith, inside n (omega (arith, within, is.count)), low (get_or order n any))

    rises : (m n : ℕ) → m ≤ n → image_at_time d receiver k order last m ≤ image_at_time d receiver k order last n
    rises zero n before = zero-le
    rises (suc m) zero before = absurd (omega arith)
    rises (suc m) (suc n) before = elim (cases_lt n (length order)) [
      | inl within ↦ omega (
        arith,
        inside m (omega arith),
        inside n within,
        rising_places d receiver k edges copies
            order is m n (omega arith) within,
      )
      | inr far ↦ (let end = past (suc n) (omega (arith, far, is.count)) in elim (cases_lt m (length order)) [
        | inl within ↦ omega (arith, inside m within, low (get_or order m any), end)
        | inr both ↦ omega (arith, past (suc m) (omega (arith, both, is.count)), end)
      ])
    ]

-- a function that only rises gives of a least number the least that it gives
least_of_rising : (t : ℕ → ℕ) → ((m n : ℕ) → m ≤ n → t m ≤ t n) → (f g : ℕ → ℕ) (a : ℕ) (cs : List ℕ)
    → All (λ c. g c ≡ t (f c)) cs
    → fold (λ least c. min least (g c)) (t a) cs ≡ t (fold (λ least c. min least (f c)) a cs)
least_of_rising t rises f g a [] same = refl
least_of_rising t rises f g a (c ∷ cs) same =
    let here : g c ≡ t (f c) = All-head (λ i. g i ≡ t (f i)) c cs same in
    let one : min (t a) (g c) ≡ t (min a (f c)) = grind arith in
    ap (λ m. fold (λ least i. min least (g i)) m cs) one
    ∙ least_of_rising t rises f g (min a (f c)) cs (All-tail (λ i. g i ≡ t (f i)) c cs same)

pub least_is_first : (d : Source) (receiver k : ℕ) (edges : List Edge) (copies : ℕ) (order : List Delivery)
    (last ring subject : ℕ)
    → IsDeliveryOrder d receiver k edges copies order → AreImagesBelow d receiver k last
    → least_image d receiver k edges copies last ring subject
    ≡ image_at_time d receiver k order last (first_time d receiver k edges copies ring subject)
least_is_first d receiver k edges copies order last ring subject is low = go (set_of edges ring subject) refl
  where
    at : ℕ → ℕ
    at = image_at_time d receiver k order last

    time : ℕ → ℕ
    time c = time_of d receiver k edges copies (copy_of ring subject c)

    image : ℕ → ℕ
    image c = image_of d receiver k (copy_of ring subject c)

    end : ℕ
    end = copies * length edges + 1

    cs : List ℕ
    cs = range_with_len 0 copies

    along : RisesTo end last at
    along = images_rise d receiver k edges copies order last is low

    go : (b : Bool) → set_of edges ring subject ≡ b
        → (if b then fold (λ least c. min least (image c)) last cs else last)
        ≡ at (if b then fold (λ least c. min least (time c)) end cs else end)
    go true given =
        ap (λ a. fold (λ least c. min least (image c)) a cs) (sym (along.past end (omega arith)))
        ∙ least_of_rising at along.rises time image end cs (λ i c inside.
        let x : Delivery = copy_of ring subject (get_or cs i c) in
        sym (image_at_rank d receiver k edges copies order last x is
        (copy_is_delivery edges copies x (range_is_below copies i c inside, given))))
    go false given = sym (along.past end (omega arith))
