-- How many deliveries there are, and which of an edge's copies comes first.
use Rattle.std.proofs.Common.{◌≡◌, ◌∙◌, ℕ, ◌+◌, ◌*◌, ◌<◌, ◌≤◌, ◌&&◌, ◌||◌, Bool, true, false, cond, if◌then◌else◌}
use Rattle.std.proofs.Common.{List, [], ◌∷◌, length, fold, min, nat_lt, nat_le, refl, ap, sym, arith}
use Rattle.std.specs.List.{count_by, list_any, flat_map, range_with_len, sum_by}
use Rattle.std.proofs.lemmas.Bool.Decides.{nat_tests}
use Rattle.std.proofs.lemmas.List.Sums.{sum_by-cons, sum_by-append}
use Rattle.cut_lists.proofs.Maps.{count_by-map, list_any-map, list_any-flat_map}
use Rattle.cut_rings.specs.declared.edge.Edge.{Edge}
use Rattle.cut_rings.specs.Edges.{is_edge, set_of}
use Rattle.cut_draws.specs.declared.delivery.Delivery.{Delivery}
use Rattle.cut_draws.specs.Source.{Source}
use Rattle.cut_draws.specs.DeliveryOrder.{copies_of, all_deliveries, delivery_rank, early}
use Rattle.cut_draws.specs.Laws.{least_of_copies, time_of, first_time}
use Rattle.cut_draws.proofs.Copies.{count_of_copies}

pub count_of_all : (edges : List Edge) (copies : ℕ) → length (all_deliveries edges copies) ≡ copies * length edges
count_of_all edges copies = count_of_copies edges 0 copies

count_of_list : (test : Delivery → Bool) (edges : List Edge) (cs : List ℕ)
    → count_by test (flat_map (λ c. copies_of edges c) cs)
    ≡ sum_by (λ c. count_by (λ e. test (record { edge = e; copy = c })) edges) cs
count_of_list test edges [] = refl
count_of_list test edges (c ∷ cs) =
    let each : ℕ → ℕ = λ i. count_by (λ e. test (record { edge = e; copy = i })) edges in
    sum_by-append (λ x. cond (test x) 1 0) (copies_of edges c) (flat_map (λ i. copies_of edges i) cs)
    ∙ ap (λ n. n + count_by test (flat_map (λ i. copies_of edges i) cs))
    (count_by-map test (λ e. record { edge = e; copy = c }) edges)
    ∙ ap (λ n. each c + n) (count_of_list test edges cs)
    ∙ sym (sum_by-cons each c cs)

pub count_by_copies : (test : Delivery → Bool) (edges : List Edge) (copies : ℕ)
    → count_by test (all_deliveries edges copies)
    ≡ sum_by (λ c. count_by (λ e. test (record { edge = e; copy = c })) edges) (range_with_len 0 copies)
count_by_copies test edges copies = count_of_list test edges (range_with_len 0 copies)

-- a least number is at most n where one of the numbers is
pub least_more : (a b n : ℕ) (rest : Bool) → nat_le (min a b) n || rest ≡ nat_le a n || (nat_le b n || rest)
least_more a b n rest = grind (arith, nat_tests)

or_none : (b : Bool) → b ≡ b || false
or_none true = refl
or_none false = refl

least_at : (f : ℕ → ℕ) (n a : ℕ) (cs : List ℕ)
    → nat_le (fold (λ least c. min least (f c)) a cs) n ≡ nat_le a n || list_any (λ c. nat_le (f c) n) cs
least_at f n a [] = or_none (nat_le a n)
least_at f n a (c ∷ cs) = least_at f n (min a (f c)) cs ∙ least_more a (f c) n (list_any (λ i. nat_le (f i) n) cs)

pub next_le : (m n : ℕ) → nat_lt m n ≡ nat_le (m + 1) n
next_le m n = grind (arith, nat_tests)

above : (m n : ℕ) → n < m → nat_le m n ≡ false
above m n low = grind (arith, nat_tests)

-- what is asked of each edge that is this one
of_edge : (f : Edge → ℕ) (n ring subject : ℕ) (edges : List Edge)
    → list_any (λ e. is_edge ring subject e && nat_lt (f e) n) edges
    ≡ set_of edges ring subject && nat_le (f (record { ring = ring; subject = subject }) + 1) n
of_edge f n ring subject [] = refl
of_edge f n ring subject (e ∷ es) =
    grind (arith, of_edge f n ring subject es)

any_of_both : (b : Bool) (p : ℕ → Bool) (cs : List ℕ) → list_any (λ c. b && p c) cs ≡ b && list_any p cs
any_of_both true p cs = refl
any_of_both false p [] = refl
any_of_both false p (c ∷ cs) = any_of_both false p cs

-- a copy of the edge of a ring and a subject
abbrev pub copy_of : ℕ → ℕ → ℕ → Delivery
copy_of ring subject c = record { edge = record { ring = ring; subject = subject }; copy = c }

-- after n deliveries an edge has come where one of its copies has
pub early_by_copies : (d : Source) (receiver k : ℕ) (edges : List Edge) (copies n ring subject : ℕ)
    → early d receiver k edges copies n ring subject
    ≡ (set_of edges ring subject && list_any (λ c. nat_le (time_of d receiver k edges copies (copy_of ring subject c))
    n) (range_with_len 0 copies))
early_by_copies d receiver k edges copies n ring subject =
    let heard : Delivery → Bool = λ x. is_edge ring subject x.edge
    && nat_lt (delivery_rank d receiver k edges copies x) n in
    let come : ℕ → Bool = λ c. nat_le (time_of d receiver k edges copies (copy_of ring subject c)) n in
    let one : (c : ℕ) → list_any heard (copies_of edges c) ≡ (set_of edges ring subject && come c) =
    λ c. list_any-map heard (λ e. record { edge = e; copy = c }) edges
    ∙ of_edge (λ e. delivery_rank d receiver k edges copies (record { edge = e; copy = c })) n ring subject edges in
    list_any-flat_map heard (λ c. copies_of edges c) (range_with_len 0 copies)
    ∙ ap (λ p. list_any p (range_with_len 0 copies)) (λ i c. one c i)
    ∙ any_of_both (set_of edges ring subject) come (range_with_len 0 copies)

-- and so where the least of them has
pub any_by_least : (f : Delivery → ℕ) (edges : List Edge) (copies end n ring subject : ℕ) → n < end
    → (set_of edges ring subject && list_any (λ c. nat_le (f (copy_of ring subject c)) n) (range_with_len 0 copies))
    ≡ nat_le (least_of_copies edges copies end f ring subject) n
any_by_least f edges copies end n ring subject low = go (set_of edges ring subject)
  where
    cs : List ℕ
    cs = range_with_len 0 copies

    g : ℕ → ℕ
    g c = f (copy_of ring subject c)

    go : (given : Bool) → (given && list_any (λ c. nat_le (g c) n) cs)
        ≡ nat_le (if given then fold (λ least c. min least (g c)) end cs else end) n
    go true = sym (least_at g n end cs ∙ ap (λ b. b || list_any (λ c. nat_le (g c) n) cs) (above end n low))
    go false = sym (above end n low)

pub early_by_first_time : (d : Source) (receiver k : ℕ) (edges : List Edge) (copies n ring subject : ℕ) → n
    ≤ copies * length edges
    → early d receiver k edges copies n ring subject ≡ nat_le (first_time d receiver k edges copies ring subject) n
early_by_first_time d receiver k edges copies n ring subject within =
    grind (arith, early_by_copies, any_by_least)
