-- Which deliveries there are, and of which edges a receiver has heard after some of them.
use Rattle.std.proofs.Common.{◌≡◌, ◌∙◌, ℕ, zero, suc, ◌*◌, ◌<◌, ◌≤◌, ◌&&◌, ◌==◌, ◌↔◌, Bool, true, false, List, [], ◌∷◌}
use Rattle.std.proofs.Common.{length, get_or, nat_le, refl, ap, sym, subst, arith}
use Rattle.std.specs.List.{Contains, flat_map, range_with_len}
use Rattle.std.proofs.Math.Bool.{and-true}
use Rattle.std.proofs.lemmas.Bool.{and_from, and_parts, eq-eqb, eqb-true, le-leb}
use Rattle.std.proofs.lemmas.List.{length-map, get_or-map}
use Rattle.std.proofs.lemmas.List.Elements.{All-contains, Contains-append_left, Contains-append_right}
use Rattle.std.proofs.lemmas.List.Folds.{Any-from_list_any, list_any_at}
use Rattle.cut_lists.proofs.Counts.{list_any-implied}
use Rattle.cut_lists.proofs.Orders.{range_is_below}
use Rattle.cut_lists.proofs.Ranges.{Contains-range_with_len, list_any_agree, list_any_none_passing, list_any_passing}
use Rattle.cut_lists.proofs.Ranks.{rank-below}
use Rattle.cut_rings.specs.declared.edge.Edge.{Edge}
use Rattle.cut_rings.specs.Edges.{is_edge, set_of}
use Rattle.cut_draws.specs.declared.delivery.Delivery.{Delivery}
use Rattle.cut_draws.specs.Source.{Source, key_at}
use Rattle.cut_draws.specs.DeliveryOrder.{copies_of, all_deliveries, delivery_place, delivery_rank, early}
use Rattle.cut_draws.specs.Laws.{time_of, image_of, come_by_image, least_image}
use Rattle.cut_draws.proofs.Apart.{compare_by_total}
use Rattle.cut_draws.proofs.Copies.{all_of_copies}
use Rattle.cut_draws.proofs.FirstTimes.{next_le, copy_of, count_of_all, early_by_copies, any_by_least}
use Rattle.cut_draws.proofs.KeyImages.{low_first}

-- what is in the list that is made of one element is in the list of all
among_all : {X Y : Type 0} (f : X → List Y) (xs : List X) (y : Y) (k : ℕ) (x : X) → k < length xs
    → Contains (f (get_or xs k x)) y → Contains (flat_map f xs) y
among_all f [] y k x low at = absurd (omega arith)
among_all f (z ∷ xs) y zero x low at = Contains-append_left (f z) (flat_map f xs) y at
among_all f (z ∷ xs) y (suc k) x low at = Contains-append_right (f z) (flat_map f xs) y
    (among_all f xs y k x (omega arith) at)

-- a copy of a given edge
abbrev IsCopy : List Edge → ℕ → Delivery → Type 0
IsCopy edges copies x = (x.copy < copies) × (set_of edges x.edge.ring x.edge.subject ≡ true)

only_copies : (edges : List Edge) (copies : ℕ) (x : Delivery) → Contains (all_deliveries edges copies) x
    → IsCopy edges copies x
only_copies edges copies x at =
    All-contains (IsCopy edges copies) (all_deliveries edges copies) x
    (all_of_copies (IsCopy edges copies) edges (range_with_len 0 copies) (λ i c inside j e below.
    let this : Edge = get_or edges j e in (
      range_is_below copies i c inside,
      list_any_at (λ z. is_edge this.ring this.subject z) edges j e below
          (and_from _ _ (eq-eqb this.ring this.ring refl) (eq-eqb this.subject this.subject refl)),
    ))) at

pub copy_is_delivery : (edges : List Edge) (copies : ℕ) (x : Delivery) → IsCopy edges copies x
    → Contains (all_deliveries edges copies) x
copy_is_delivery edges copies x is =
    let e : Edge = x.edge in
    let c : ℕ = x.copy in
    let copied : Edge → Delivery = λ z. record { edge = z; copy = c } in
    let found = Any-from_list_any (λ z. is_edge e.ring e.subject z) edges is.1 in
    let at : Edge = get_or edges found.0 found.1 in
    let parts = and_parts (at.ring == e.ring) (at.subject == e.subject)
    (ap (λ z. is_edge e.ring e.subject z) found.3 ∙ found.4) in
    let same : at ≡ e =
    ap (λ r. let z : Edge = record { ring = r; subject = at.subject } in z) (eqb-true _ _ parts.0)
    ∙ ap (λ s. let z : Edge = record { ring = e.ring; subject = s } in z) (eqb-true _ _ parts.1) in
    let here : get_or (copies_of edges c) found.0 x ≡ x = get_or-map copied edges found.0 found.1 x found.2
    ∙ ap copied same in
    let row : Contains (copies_of edges c) x = (found.0, omega (arith, length-map edges copied, found.2), here) in
    let number = Contains-range_with_len 0 copies c (omega arith) (omega (arith, is.0)) in
    among_all (λ i. copies_of edges i) (range_with_len 0 copies) x number.0 c number.1
    (subst (λ i. Contains (copies_of edges i) x) (sym number.2) row)

pub is_delivery : (edges : List Edge) (copies : ℕ) (x : Delivery) → Contains (all_deliveries edges copies) x
    ↔ IsCopy edges copies x
is_delivery edges copies x = (only_copies edges copies x, copy_is_delivery edges copies x)

pub none_at_first : (d : Source) (receiver k : ℕ) (edges : List Edge) (copies ring subject : ℕ)
    → early d receiver k edges copies 0 ring subject ≡ false
none_at_first d receiver k edges copies ring subject =
    grind (arith, early_by_copies, list_any_none_passing)

pub stays : (d : Source) (receiver k : ℕ) (edges : List Edge) (copies m n ring subject : ℕ) → m ≤ n
    → early d receiver k edges copies m ring subject ≡ true → early d receiver k edges copies n ring subject ≡ true
stays d receiver k edges copies m n ring subject later is =
    grind (arith, list_any-implied)

-- both say nothing of an edge that isn't given
given_both : (given a b : Bool) → (given ≡ true → a ≡ b) → (given && a) ≡ (given && b)
given_both true a b same = same refl
given_both false a b same = refl

pub all_in_the_end : (d : Source) (receiver k : ℕ) (edges : List Edge) (copies ring subject : ℕ) → 1 ≤ copies
    → early d receiver k edges copies (copies * length edges) ring subject ≡ set_of edges ring subject
all_in_the_end d receiver k edges copies ring subject some =
    let time : ℕ → ℕ = λ c. time_of d receiver k edges copies (copy_of ring subject c) in
    let end : ℕ = copies * length edges in
    early_by_copies d receiver k edges copies end ring subject
    ∙ given_both (set_of edges ring subject) _ true (λ given.
    let low = rank-below (compare_by_total (λ y. key_at d (delivery_place receiver k y)) k)
    (all_deliveries edges copies) (copy_of ring subject 0)
    (copy_is_delivery edges copies (copy_of ring subject 0) (some, given)) in
    list_any_passing (λ c. nat_le (time c) end) 0 copies 0 (omega arith) (omega arith)
    (le-leb (time 0) end (omega (arith, low, count_of_all edges copies))))
    ∙ and-true (set_of edges ring subject)

pub low_heard : (d : Source) (receiver k : ℕ) (edges : List Edge) (copies last w ring subject : ℕ) → w < last
    → early d receiver k edges copies (come_by_image d receiver k edges copies w) ring subject
    ≡ nat_le (least_image d receiver k edges copies last ring subject) w
low_heard d receiver k edges copies last w ring subject under =
    let copied : ℕ → Delivery = copy_of ring subject in
    let count : ℕ = come_by_image d receiver k edges copies w in
    early_by_copies d receiver k edges copies count ring subject
    ∙ given_both (set_of edges ring subject) _ _ (λ given.
    list_any_agree (λ c. nat_le (time_of d receiver k edges copies (copied c)) count)
    (λ c. nat_le (image_of d receiver k (copied c)) w) 0 copies (record {
      same = λ c low high.
          sym (low_first d receiver k edges copies w (copied c)
          (copy_is_delivery edges copies (copied c) (omega arith, given))
          ∙ next_le (delivery_rank d receiver k edges copies (copied c)) count);
    }))
    ∙ any_by_least (image_of d receiver k) edges copies last w ring subject under
