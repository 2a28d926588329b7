-- After how many deliveries receivers propose, and what these places add up to.
use Rattle.std.proofs.Common.{◌≡◌, ℕ, ◌+◌, ◌-◌, ◌*◌, ◌≤◌, Bool, true, false, cond, List, [], ◌∷◌, Option, Some, None}
use Rattle.std.proofs.Common.{option_map, length, refl, arith, mul-add, mul-one, mul-zero}
use Rattle.cut_outcome.proofs.Words.{All, IfSome, count_by, find, range_with_len, flat_map, Edge, EdgeSet, Layout}
use Rattle.cut_outcome.proofs.Words.{Delivery, all_deliveries, copies_of, Assignment, alert_list, all_edges, edges_of}
use Rattle.cut_outcome.proofs.Words.{is_alerted, is_settled, stable_members, Rule, proposal_of, Proposal, judged}
use Rattle.cut_outcome.proofs.Words.{place_of, settled_of, IsSettledBy, LiesWithin}
use Rattle.std.specs.List.{sum_by}
use Rattle.std.proofs.lemmas.List.{length-map}
use Rattle.std.proofs.lemmas.List.Concat.{length-flat_map}
use Rattle.std.proofs.lemmas.List.Elements.{All-head, All-tail}
use Rattle.std.proofs.lemmas.List.FromFn.{length-range_with_len, length-map-range_with_len}
use Rattle.std.proofs.lemmas.List.Sums.{count_by-le-length, length-filter, sum_by-cons, sum_by-le}
use Rattle.std.proofs.lemmas.Nat.{mul-le}
use Rattle.cut_lists.proofs.Ranges.{All-range_with_len}
use Rattle.cut_fields.specs.declared.version.Version.{Version}
use Rattle.cut_fields.specs.declared.version.Version.TheVariants.{One, Two}

-- ---- how many deliveries there are

-- lists of at most m elements each, one after another, have at most m for each list
length-flat_map-le : {X Y : Type 0} (f : X → List Y) (m : ℕ) (xs : List X) → All (λ x. length (f x) ≤ m) xs
    → length (flat_map f xs) ≤ length xs * m
length-flat_map-le f m xs few =
    omega (arith, length-flat_map f xs, sum_by-le (λ x. length (f x)) m xs few)

few_of_subject : (k s : ℕ) → length (edges_of k s) ≤ k
few_of_subject k s =
    omega (arith, length-map-range_with_len {X = Edge} (λ ring. record { ring = ring; subject = s }) 0 k)

few_of_copy : (edges : List Edge) (c : ℕ) → length (copies_of edges c) ≤ length edges
few_of_copy edges c = omega (arith, length-map {B = Delivery} edges (λ e. record { edge = e; copy = c }))

few_edges : (r : Layout) (a : Assignment) (k : ℕ) → length (alert_list r a k) ≤ r.nodes * k
few_edges r a k =
    let test : Edge → Bool = λ e. is_alerted r a e in
    let all = rw (length-range_with_len 0 r.nodes)
    at (length-flat_map-le (λ s. edges_of k s) k (range_with_len 0 r.nodes) (λ i s _. few_of_subject k _)) in
    omega (arith, length-filter test (all_edges k r.nodes), count_by-le-length test (all_edges k r.nodes), all)

pub few_deliveries : (r : Layout) (a : Assignment) (k copies : ℕ)
    → length (all_deliveries (alert_list r a k) copies) ≤ r.nodes * k * copies
few_deliveries r a k copies =
    grind (arith, length-range_with_len 0 copies, length-flat_map-le, few_of_copy, few_edges r a k)

-- ---- the place of a proposal

-- it is proposed from the first delivery on, up to the m-th
abbrev pub IsPlacedBy : ℕ → Option Proposal → Type 0
IsPlacedBy m o = IfSome o (λ p. (1 ≤ p.at) × (p.at ≤ m))

pub placed : (r : Layout) (rule : Rule) (E : ℕ → EdgeSet) (count : ℕ) → IsPlacedBy count (proposal_of r rule E count)
placed r rule E count =
    at (range_with_len 1 count)
    (All-range_with_len (λ n. (1 ≤ n) × (n ≤ count)) 1 count (λ n low high. (low, omega arith)))
  where
    made : Option ℕ → Option Proposal
    made found = option_map (λ n. record { members = stable_members r rule (E n); at = n }) found

    first : (b : Bool) (n : ℕ) (rest : Option ℕ) → (1 ≤ n) × (n ≤ count) → IsPlacedBy count (made rest)
        → IsPlacedBy count (made (cond b (Some n) rest))
    first true n rest here later = here
    first false n rest here later = later

    at : (ns : List ℕ) → All (λ n. (1 ≤ n) × (n ≤ count)) ns
        → IsPlacedBy count (made (find (λ n. is_settled r rule (E n)) ns))
    at [] within = tt
    at (n ∷ ns) within =
        first (is_settled r rule (E n)) n (find (λ n. is_settled r rule (E n)) ns)
        (All-head (λ n. (1 ≤ n) × (n ≤ count)) n ns within)
        (at ns (All-tail (λ n. (1 ≤ n) × (n ≤ count)) n ns within))

-- ---- what the places add up to

abbrev is_silent : Assignment → Option Proposal → Bool
is_silent a o = (judged a o).silent

one_more : (a : Assignment) (m : ℕ) (o : Option Proposal) (ps : List (Option Proposal)) → IsPlacedBy m o
    → LiesWithin (length ps - count_by (is_silent a) ps) m (sum_by place_of ps)
    → LiesWithin (length (o ∷ ps) - count_by (is_silent a) (o ∷ ps)) m (sum_by place_of (o ∷ ps))
one_more a m None ps here rest =
    let silent = sum_by-cons (λ x. cond (is_silent a x) 1 0) None ps in
    grind arith
one_more a m (Some p) ps here rest =
    let n : ℕ = length ps - count_by (is_silent a) ps in
    let silent = sum_by-cons (λ x. cond (is_silent a x) 1 0) (Some p) ps in
    let sum = sum_by-cons place_of (Some p) ps in
    let more : length (Some p ∷ ps) - count_by (is_silent a) (Some p ∷ ps) ≡ n + 1 =
    omega (arith, silent, count_by-le-length (is_silent a) ps) in
    rw (more, sum) (record { low = omega (arith, rest.low, here.0); high = omega (arith, rest.high, here.1) })

-- each receiver that proposes adds its place, and a silent one nothing
pub places_within : (a : Assignment) (m : ℕ) (ps : List (Option Proposal)) → All (λ o. IsPlacedBy m o) ps
    → LiesWithin (length ps - count_by (is_silent a) ps) m (sum_by place_of ps)
places_within a m [] each = record { low = omega arith; high = omega arith }
places_within a m (o ∷ ps) each =
    search (arith, one_more, All-head, All-tail, places_within a m ps)

one_more_from : (a : Assignment) (b : ℕ) (o : Option Proposal) (ps : List (Option Proposal))
    → IfSome o (λ p. b ≤ p.at)
    → b * (length ps - count_by (is_silent a) ps) ≤ sum_by place_of ps
    → b * (length (o ∷ ps) - count_by (is_silent a) (o ∷ ps)) ≤ sum_by place_of (o ∷ ps)
one_more_from a b None ps here rest =
    let silent = sum_by-cons (λ x. cond (is_silent a x) 1 0) None ps in
    grind arith
one_more_from a b (Some p) ps here rest =
    let n : ℕ = length ps - count_by (is_silent a) ps in
    let silent = sum_by-cons (λ x. cond (is_silent a x) 1 0) (Some p) ps in
    let sum = sum_by-cons place_of (Some p) ps in
    let more : length (Some p ∷ ps) - count_by (is_silent a) (Some p ∷ ps) ≡ n + 1 =
    omega (arith, silent, count_by-le-length (is_silent a) ps) in
    rw (more, sum, mul-add b n 1, mul-one b) (omega (arith, rest, here))

-- where each proposal comes after b deliveries or more, the places add up to b for each at least
pub places_from : (a : Assignment) (b : ℕ) (ps : List (Option Proposal)) → All (λ o. IfSome o (λ p. b ≤ p.at)) ps
    → b * (length ps - count_by (is_silent a) ps) ≤ sum_by place_of ps
places_from a b [] each = rw (mul-zero b) (omega arith)
places_from a b (o ∷ ps) each =
    search (arith, one_more_from, All-head, All-tail, places_from a b ps)

-- ---- what a plan of either version has of it

pub settled_by : (version : Version) (ps : List (Option Proposal)) (n m most : ℕ)
    → LiesWithin n m (sum_by place_of ps) → m ≤ most → IsSettledBy version n most (settled_of version ps)
settled_by One ps n m most is few = refl
settled_by Two ps n m most is few = (is.low, omega (arith, is.high, mul-le n m n most (omega arith) few))

-- the sums over two lists of trials, added up
pub settled_more : (version : Version) (n m both most a b : ℕ) → both ≡ n + m → IsSettledBy version n most a
    → IsSettledBy version m most b → IsSettledBy version both most (a + b)
settled_more One n m both most a b is first rest = omega (arith, first, rest)
settled_more Two n m both most a b is first rest =
    rw is (omega (arith, first.0, rest.0), omega (arith, first.1, rest.1))

pub settled_few : (version : Version) (n most m k s : ℕ) → IsSettledBy version n most s → n ≤ m → most ≤ k
    → s ≤ m * k
settled_few One n most m k s is low few = omega (arith, is)
settled_few Two n most m k s is low few = omega (arith, is.1, mul-le n most m k low few)
