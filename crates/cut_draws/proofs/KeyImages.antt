-- What the high bits of keys say of the order of deliveries.
use Rattle.std.proofs.Common.{◌≡◌, ◌∙◌, ℕ, ◌<◌, ◌≤◌, inl, inr, Bool, true, List, nat_lt, nat_le, ap}
use Rattle.std.proofs.Common.{sym, arith}
use Rattle.std.specs.declared.cmp.Ordering.TheVariants.{Less}
use Rattle.std.specs.Ordering.{is_lt}
use Rattle.std.specs.List.{Contains}
use Rattle.std.proofs.lemmas.Bool.{cases_lt, lt-ltb, lt-leb, le-leb, leb-true}
use Rattle.std.proofs.lemmas.Cmp.{tied_itself}
use Rattle.cut_lists.proofs.Parts.{count_le, count_less}
use Rattle.cut_lists.proofs.Ranks.{rank-less}
use Rattle.cut_rings.specs.declared.edge.Edge.{Edge}
use Rattle.cut_draws.specs.declared.delivery.Delivery.{Delivery}
use Rattle.cut_draws.specs.Source.{Source, key_at}
use Rattle.cut_draws.specs.DeliveryOrder.{all_deliveries, compare_deliveries, delivery_place, delivery_rank}
use Rattle.cut_draws.specs.Laws.{image_of, come_by_image}
use Rattle.cut_draws.proofs.Apart.{compare_by_total}

abbrev key : Source → ℕ → ℕ → Delivery → ℕ
key d receiver k x = key_at d (delivery_place receiver k x)

-- of the lesser image, of the lesser key
lesser : (d : Source) (receiver k : ℕ) (x y : Delivery) → image_of d receiver k x < image_of d receiver k y
    → compare_deliveries d receiver k x y ≡ Less
lesser d receiver k x y low =
    grind arith

-- what comes before is of no greater image
no_greater : (d : Source) (receiver k : ℕ) (x y : Delivery) → is_lt (compare_deliveries d receiver k x y) ≡ true
    → nat_le (image_of d receiver k x) (image_of d receiver k y) ≡ true
no_greater d receiver k x y before = grind (arith, le-leb)

pub before_by_image : (d : Source) (receiver k : ℕ) (edges : List Edge) (copies : ℕ) (x y : Delivery)
    → Contains (all_deliveries edges copies) x
    → image_of d receiver k x < image_of d receiver k y
    → delivery_rank d receiver k edges copies x < delivery_rank d receiver k edges copies y
before_by_image d receiver k edges copies x y among low =
    rank-less (compare_by_total (key d receiver k) k) (all_deliveries edges copies) x y among
    (lesser d receiver k x y low)

-- all of lesser images come before x, and none of a greater image does
pub low_first : (d : Source) (receiver k : ℕ) (edges : List Edge) (copies w : ℕ) (x : Delivery)
    → Contains (all_deliveries edges copies) x
    → nat_le (image_of d receiver k x) w ≡ nat_lt (delivery_rank d receiver k edges copies x)
    (come_by_image d receiver k edges copies w)
low_first d receiver k edges copies w x among =
    let all : List Delivery = all_deliveries edges copies in
    let image : Delivery → ℕ = image_of d receiver k in
    let comes : Delivery → Bool = λ y. is_lt (compare_deliveries d receiver k y x) in
    elim (cases_lt w (image x)) [
      | inl greater ↦ grind (arith, count_le, leb-true, lesser d receiver k, lt-leb (image x) w greater)
      | inr most ↦ (
          let inside : delivery_rank d receiver k edges copies x < come_by_image d receiver k edges copies w =
          count_less comes (λ y. nat_le (image y) w) all among.0 x
          (λ y e. let up : image y ≤ image x = leb-true _ _ (no_greater d receiver k y x e) in le-leb _ _ (omega arith))
          among.1
          (ap comes among.2 ∙ ap is_lt (tied_itself (compare_by_total (key d receiver k) k) x))
          (ap (λ y. nat_le (image y) w) among.2 ∙ le-leb (image x) w most) in
          le-leb (image x) w most ∙ sym (lt-ltb _ _ inside))
    ]
