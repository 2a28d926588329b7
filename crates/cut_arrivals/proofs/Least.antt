-- The image of an edge is the least over its copies.
use Rattle.std.proofs.Common.{◌≡◌, ℕ, ◌+◌, ◌*◌, ◌/◌, ◌%◌, ◌^◌, ◌==◌, ◌&&◌, ◌||◌, Bool, true, false, nat_le, List, []}
use Rattle.std.proofs.Common.{◌∷◌, map, filter, min, fold, refl, ap, sym, ◌∙◌, arith}
use Rattle.std.specs.List.{list_any, range_with_len}
use Rattle.std.proofs.Math.Bool.{or-false}
use Rattle.std.proofs.lemmas.Bool.{and_parts, eqb-true, le-leb, leb-true, lt-leb}
use Rattle.cut_lists.proofs.Maps.{list_any-flat_map, list_any-map}
use Rattle.cut_rings.specs.declared.edge.Edge.{Edge}
use Rattle.cut_rings.specs.Edges.{is_edge, set_of, edge_number}
use Rattle.cut_draws.specs.declared.delivery.Delivery.{Delivery}
use Rattle.cut_draws.specs.DeliveryOrder.{copies_of}
use Rattle.cut_arrivals.specs.blocks.Images.{DeliveriesStandInBlocks, CopiesAreApart, image_at, never, place_in, row_of}
unfoldable use Rattle.cut_arrivals.specs.blocks.Images.{least_image}
use Rattle.cut_arrivals.specs.ranks.Ranks.{rank_at}
use Rattle.cut_arrivals.specs.proposals.Reception.{Reception, deliveries_of, image_of, images_at}
use Rattle.cut_arrivals.proofs.RankLemmas.{rank_is}
use Rattle.cut_arrivals.proofs.FirstTimes.{first_come}
use Rattle.cut_arrivals.proofs.RanksRanks.{one_rank}
use Rattle.cut_draws.proofs.FirstTimes.{least_more}

-- the least has come exactly where some has
fold_least : (f : ℕ → ℕ) (a t : ℕ) (cs : List ℕ) → nat_le (fold (λ m c. min m (f c)) a cs) t ≡ nat_le a t
    || list_any (λ c. nat_le (f c) t) cs
fold_least f a t [] = sym (or-false (nat_le a t))
fold_least f a t (c ∷ cs) = fold_least f (min a (f c)) t cs ∙ least_more a (f c) t (list_any (λ c. nat_le (f c) t) cs)

with_rest : (p q b rest : Bool) (any : Bool) → (p ≡ true → q ≡ b) → rest ≡ any && b → (p && q) || rest ≡ (p || any) && b
with_rest true q b rest any same is = grind arith
with_rest false q b rest any same is = is

-- a test that has the same outcome at each element that passes another
any_same : {X : Type 0} (p q : X → Bool) (b : Bool) (xs : List X) → ((x : X) → p x ≡ true → q x ≡ b)
    → list_any (λ x. p x && q x) xs ≡ list_any p xs && b
any_same p q b [] same = refl
any_same p q b (x ∷ xs) same = with_rest (p x) (q x) b _ (list_any p xs) (same x) (any_same p q b xs same)

module _ (x : Reception) (blocks : DeliveriesStandInBlocks) (rows : CopiesAreApart) (ring s : ℕ) where
  abbrev number : ℕ
  number = s * x.rule.k + ring

  -- the image of a copy of the edge
  abbrev of_copy : ℕ → ℕ
  of_copy c = image_at x.source (place_in (row_of 0 x.receiver + (number / 8 + c * 2 ^ 24)) (number % 8))

  copy_image : (e : Edge) (c : ℕ) → is_edge ring s e ≡ true → image_of x (record { edge = e; copy = c }) ≡ of_copy c
  copy_image e c is =
      let parts = and_parts (e.ring == ring) (e.subject == s) is in
      let same : edge_number x.rule.k e ≡ number =
      ap (λ a. a * x.rule.k + e.ring) (eqb-true e.subject s parts.1)
      ∙ ap (λ b. s * x.rule.k + b) (eqb-true e.ring ring parts.0) in
      let d : Delivery = record { edge = e; copy = c } in
      let row : row_of c x.receiver + number / 8 ≡ row_of 0 x.receiver
      + (number / 8 + c * 2 ^ 24) = omega (arith, rows c x.receiver) in
      ap (image_at x.source) (blocks x.receiver x.rule.k d)
      ∙ ap (λ m. image_at x.source (place_in (row_of c x.receiver + m / 8) (m % 8))) same
      ∙ ap (λ m. image_at x.source (place_in m (number % 8))) row

  some_copy : (t : ℕ) → set_of x.edges ring s ≡ true
      → list_any (λ y. is_edge ring s y.edge && nat_le (image_of x y) t) (deliveries_of x)
      ≡ list_any (λ c. nat_le (of_copy c) t) (range_with_len 0 x.copies)
  some_copy t alerted =
      list_any-flat_map (λ y. is_edge ring s y.edge && nat_le (image_of x y) t) (λ c. copies_of x.edges c)
      (range_with_len 0 x.copies)
      ∙ ap (λ (p : ℕ → Bool). list_any p (range_with_len 0 x.copies)) (λ i c. each c i)
    where
      each : (c : ℕ) → list_any (λ y. is_edge ring s y.edge && nat_le (image_of x y) t) (copies_of x.edges c)
          ≡ nat_le (of_copy c) t
      each c =
          list_any-map (λ (y : Delivery). is_edge ring s y.edge && nat_le (image_of x y) t)
          (λ e. record { edge = e; copy = c }) x.edges
          ∙ any_same (λ e. is_edge ring s e) (λ e. nat_le (image_of x (record { edge = e; copy = c })) t)
          (nat_le (of_copy c) t) x.edges
          (λ e is. ap (λ m. nat_le m t) (copy_image e c is))
          ∙ ap (λ b. b && nat_le (of_copy c) t) alerted

  abbrev least : ℕ
  least = fold (λ m c. min m (of_copy c)) never (range_with_len 0 x.copies)

  abbrev images : List ℕ
  images = map (image_of x) (filter (λ y. is_edge ring s y.edge) (deliveries_of x))

  image_is_least : set_of x.edges ring s ≡ true → rank_at never 1 images ≡ least
  image_is_least alerted =
      one_rank never 1 images (rank_at never 1 images) least (rank_is never 1 images) (record {
        within = leb-true _ _ (fold_least of_copy never never (range_with_len 0 x.copies)
            ∙ ap (λ b. b || list_any (λ c. nat_le (of_copy c) never) (range_with_len 0 x.copies))
            (le-leb never never (omega arith)));
        comes = λ t low.
            (rank_is never 1 images).comes t low
            ∙ sym (first_come never (image_of x) (λ y. is_edge ring s y.edge) (deliveries_of x) t low)
            ∙ some_copy t alerted
            ∙ sym (fold_least of_copy never t (range_with_len 0 x.copies)
            ∙ ap (λ b. b || list_any (λ c. nat_le (of_copy c) t) (range_with_len 0 x.copies)) (lt-leb never t low));
      })

pub images_are_least : DeliveriesStandInBlocks → CopiesAreApart → (x : Reception) (ring s : ℕ) → set_of x.edges ring s
    ≡ true
    → images_at x never ring s
    ≡ least_image x.source x.copies (edge_number x.rule.k (record { ring = ring; subject = s }) / 8)
    (edge_number x.rule.k (record { ring = ring; subject = s }) % 8) (row_of 0 x.receiver)
unfolding least_image
images_are_least blocks rows x ring s alerted = image_is_least x blocks rows ring s alerted
