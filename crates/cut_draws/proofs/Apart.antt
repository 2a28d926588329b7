-- Edges whose numbers differ give copies of which no two compare as equal.
use Rattle.std.proofs.Common.{◌≡◌, ◌≢◌, ℕ, zero, suc, ◌+◌, ◌<◌, ◌≤◌, ◌⊎◌, inl, inr, Bool, true, false}
use Rattle.std.proofs.Common.{List, [], ◌∷◌, ◌++◌, length, get_or, refl, ap, ◌∙◌, arith}
use Rattle.std.specs.declared.cmp.Ordering.{Ordering}
use Rattle.std.specs.declared.cmp.Ordering.TheVariants.{Less, Equal, Greater}
use Rattle.std.specs.Ordering.{nat_cmp, ordering_then, is_eq, eq_by_cmp}
use Rattle.std.specs.Cmp.{IsTotalOrder, second_so, unsigned_tied}
use Rattle.std.specs.List.{All, IsDistinct, flat_map, range_with_len}
use Rattle.std.proofs.lemmas.Bool.{ne_eqb}
use Rattle.std.proofs.lemmas.Cmp.{nat_cmp_total, then_total, on_total}
use Rattle.std.proofs.lemmas.List.{length-map, length-append, get_or-map, get_or_append_left, get_or-append_right}
use Rattle.std.proofs.lemmas.List.Elements.{All-map}
use Rattle.std.proofs.lemmas.List.Folds.{list_any_at}
use Rattle.std.proofs.lemmas.List.FromFn.{length-range_with_len, get_or-range_with_len}
use Rattle.std.proofs.lemmas.Map.Keys.{IsDistinct-from_apart}
use Rattle.cut_rings.specs.declared.edge.Edge.{Edge}
use Rattle.cut_rings.specs.Edges.{edge_number}
use Rattle.cut_draws.specs.declared.delivery.Delivery.{Delivery}
use Rattle.cut_draws.specs.DeliveryOrder.{are_distinct, copies_of, all_deliveries}
use Rattle.cut_draws.proofs.Copies.{all_of_copies}

-- how two deliveries compare, by what their keys are
abbrev pub compare_by : (Delivery → ℕ) → ℕ → Delivery → Delivery → Ordering
compare_by key k y x =
    ordering_then (nat_cmp (key y) (key x)) (ordering_then (nat_cmp (edge_number k y.edge) (edge_number k x.edge))
    (nat_cmp y.copy x.copy))

pub compare_by_total : (key : Delivery → ℕ) (k : ℕ) → IsTotalOrder (compare_by key k)
compare_by_total key k =
    then_total (on_total key nat_cmp_total) (then_total (on_total (λ x. edge_number k x.edge) nat_cmp_total)
    (on_total (λ x. x.copy) nat_cmp_total))

-- no two elements pass a test
abbrev pub Apart : {X : Type 0} → (X → X → Bool) → List X → Type 0
Apart {X} E xs = (i j : ℕ) (d : X) → i < j → j < length xs → E (get_or xs i d) (get_or xs j d) ≡ false

pub le_or_lt : (m n : ℕ) → (m ≤ n) ⊎ (n < m)
le_or_lt zero n = inl (omega arith)
le_or_lt (suc m) zero = inr (omega arith)
le_or_lt (suc m) (suc n) = grind arith

apart_append : {X : Type 0} (E : X → X → Bool) (xs ys : List X) → Apart E xs → Apart E ys
    → All (λ x. All (λ y. E x y ≡ false) ys) xs → Apart E (xs ++ ys)
apart_append {X} E xs ys prefix back across i j d before within =
    grind (arith, get_or_append_left, get_or-append_right, length-append)

pub numbers_apart : (k : ℕ) (edges : List Edge) → are_distinct k edges ≡ true → (i j : ℕ) (d : Edge) → i < j → j
    < length edges → edge_number k (get_or edges i d) ≢ edge_number k (get_or edges j d)
numbers_apart k [] distinct i j d before within same = omega arith
numbers_apart k (e ∷ rest) distinct i zero d before within same = omega arith
numbers_apart k (e ∷ rest) distinct zero (suc j) d before within same =
    grind (arith, list_any_at)
numbers_apart k (e ∷ rest) distinct (suc i) (suc j) d before within same =
    numbers_apart k rest (second_so _ _ distinct) i j d (omega arith) (omega arith) same

untied : (a b : ℕ) → a ≢ b → is_eq (nat_cmp a b) ≡ false
untied a b differ = unsigned_tied a b ∙ ne_eqb a b differ

by_second : (r s : Ordering) → is_eq s ≡ false → is_eq (ordering_then r s) ≡ false
by_second Less s e = refl
by_second Equal s e = e
by_second Greater s e = refl

by_first : (r s : Ordering) → is_eq r ≡ false → is_eq (ordering_then r s) ≡ false
by_first Less s e = refl
by_first Equal s e = cc
by_first Greater s e = refl

-- whether two deliveries compare as equal
abbrev pub ties : (Delivery → ℕ) → ℕ → Delivery → Delivery → Bool
ties key k x y = eq_by_cmp (compare_by key k) x y

other_number : (key : Delivery → ℕ) (k : ℕ) (x y : Delivery) → edge_number k x.edge ≢ edge_number k y.edge
    → ties key k x y ≡ false
other_number key k x y differ =
    by_second (nat_cmp (key x) (key y)) _ (by_first _ (nat_cmp x.copy y.copy) (untied _ _ differ))

other_copy : (key : Delivery → ℕ) (k : ℕ) (x y : Delivery) → x.copy ≢ y.copy → ties key k x y ≡ false
other_copy key k x y differ =
    grind arith

one_copy_apart : (key : Delivery → ℕ) (k : ℕ) (edges : List Edge) (c : ℕ) → are_distinct k edges ≡ true
    → Apart (ties key k) (copies_of edges c)
one_copy_apart key k edges c distinct i j x before within =
    let f : Edge → Delivery = λ e. record { edge = e; copy = c } in
    let long : length (copies_of edges c) ≡ length edges = length-map edges f in
    let low : get_or (copies_of edges c) i x ≡ f (get_or edges i x.edge) = get_or-map f edges i x.edge x (omega arith)
    in
    let high : get_or (copies_of edges c) j x ≡ f (get_or edges j x.edge) = get_or-map f edges j x.edge x (omega arith)
    in
    ap (λ y. ties key k y (get_or (copies_of edges c) j x)) low
    ∙ ap (ties key k (f (get_or edges i x.edge))) high
    ∙ other_number key k (f (get_or edges i x.edge)) (f (get_or edges j x.edge))
    (numbers_apart k edges distinct i j x.edge before (omega arith))

-- the copies of one number and those of later numbers
later_copies_apart : (key : Delivery → ℕ) (k : ℕ) (edges : List Edge) (a n : ℕ)
    → All (λ x. All (λ y. ties key k x y ≡ false) (flat_map (λ c. copies_of edges c) (range_with_len (a + 1) n)))
    (copies_of edges a)
later_copies_apart key k edges a n =
    let rest : List Delivery = flat_map (λ c. copies_of edges c) (range_with_len (a + 1) n) in
    let later : All (λ y. a < y.copy) rest =
    all_of_copies (λ y. a < y.copy) edges (range_with_len (a + 1) n) (λ i d within _ _ _.
    let long : length (range_with_len (a + 1) n) ≡ n = length-range_with_len (a + 1) n in
    let at : get_or (range_with_len (a + 1) n) i d ≡ a + 1 + i = get_or-range_with_len (a + 1) n i d (omega arith) in
    omega arith)
    in
    All-map (λ x. All (λ y. ties key k x y ≡ false) rest) (λ e. record { edge = e; copy = a }) edges
    (λ i e within j y inside.
    let more : a < (get_or rest j y).copy = later j y inside in
    other_copy key k (let x : Delivery = record { edge = get_or edges i e; copy = a } in x) (get_or rest j y)
    (omega arith))

pub copies_apart : (key : Delivery → ℕ) (k : ℕ) (edges : List Edge) (a n : ℕ) → are_distinct k edges ≡ true
    → Apart (ties key k) (flat_map (λ c. copies_of edges c) (range_with_len a n))
copies_apart key k edges a zero distinct = λ i j x before within. absurd (omega arith)
copies_apart key k edges a (suc n) distinct =
    apart_append (ties key k) (copies_of edges a) (flat_map (λ c. copies_of edges c) (range_with_len (a + 1) n))
    (one_copy_apart key k edges a distinct) (copies_apart key k edges (a + 1) n distinct)
    (later_copies_apart key k edges a n)

-- so no two deliveries are alike
pub deliveries_distinct : (key : Delivery → ℕ) (k : ℕ) (edges : List Edge) (copies : ℕ) → are_distinct k edges ≡ true
    → IsDistinct (ties key k) (all_deliveries edges copies)
deliveries_distinct key k edges copies distinct =
    IsDistinct-from_apart (ties key k) (all_deliveries edges copies) (copies_apart key k edges 0 copies distinct)
