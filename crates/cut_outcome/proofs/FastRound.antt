-- The fast round: votes and quorums, and how a ballot's entries follow the proposals that were added.
use Rattle.std.proofs.Common.{◌≡◌, ℕ, ◌+◌, ◌<◌, ◌≤◌, Bool, true, false, cond, List, [], ◌∷◌, ◌++◌, replicate, Option}
use Rattle.std.proofs.Common.{Some, None, length, get_or, map, max, fold, ◌*◌, mul-one, mul-zero, refl, sym, ap, ◌∙◌}
use Rattle.std.proofs.Common.{inl, inr, arith, add-zero, nat_le, unwrap_or}
use Rattle.cut_outcome.proofs.Words.{IsDistinct, Assignment, Proposal, judged, count_by, same_members, quorum_of}
use Rattle.cut_outcome.proofs.Words.{votes_of, most_votes, cast_of, HasCounted, one_if}
use Rattle.std.specs.Cmp.Lexicographic.{same_text, on_texts_equal}
use Rattle.std.specs.HashMap.{HashMap, UpdatesBy}
use Rattle.std.specs.Map.{lookup, keys_of, values_of, KeepsOthers}
use Rattle.std.specs.Global.{Vec}
use Rattle.std.proofs.lemmas.Bool.{cases_Bool, cases_lt, both_ways, lt-ltb}
use Rattle.std.proofs.lemmas.Cmp.{nat_list_eq_equiv}
use Rattle.std.proofs.lemmas.List.{get_or-map, length-map}
use Rattle.std.proofs.lemmas.List.Elements.{All-map}
use Rattle.std.proofs.lemmas.List.Folds.{Any-from_list_any, sum_by-replicate}
use Rattle.std.proofs.lemmas.List.Sums.{sum_by-append, sum_by-cons, sum_by_push, count_by-le-length}
use Rattle.std.proofs.lemmas.Option.{slice_get-get_or}
use Rattle.std.proofs.lemmas.Map.Entries.{lookup_from_place}
use mir.Val.{bool_byte}
use Rattle.cut_lists.proofs.Counts.{list_any-count_by, counts-apart}
use Rattle.cut_lists.proofs.Greatest.{fold_max-le, le-fold_max, get_or-le-fold_max}

-- ---- votes

pub same_is : (xs ys : List ℕ) → same_members xs ys ≡ true → xs ≡ ys
same_is xs ys h = same_text xs ys (sym h)

pub quorums_agree : (n : ℕ) (cast : List (List ℕ)) (a b : List ℕ) → 1 ≤ n → length cast ≤ n
    → quorum_of n ≤ votes_of cast a → quorum_of n ≤ votes_of cast b → a ≡ b
quorums_agree n cast a b some few for_a for_b = elim (cases_Bool (same_members a b)) [
  | inl same ↦ same_is a b same
  | inr differ ↦ (
      let apart = counts-apart (λ c. same_members c a) (λ c. same_members c b) cast
      (λ c is_a is_b. both_ways _ differ (sym (nat_list_eq_equiv.congr c a b is_a) ∙ is_b)) in
      absurd (omega (arith, apart, some, few, for_a, for_b)))
]

-- the votes for any members are at most the most votes
pub most_votes_are_most : (cast : List (List ℕ)) (members : List ℕ) → votes_of cast members ≤ most_votes cast
most_votes_are_most cast members = elim (cases_lt 0 (votes_of cast members)) [
  | inl some ↦ (
      let test : List ℕ → Bool = λ c. same_members c members in
      let any = list_any-count_by test cast ∙ lt-ltb 0 (votes_of cast members) some in
      let at = Any-from_list_any test cast any in
      let votes : List ℕ = map (λ c. votes_of cast c) cast in
      let is = ap (λ c. votes_of cast c) (same_is (get_or cast at.0 at.1) members (ap test at.3 ∙ at.4)) in
      let below : at.0 < length votes = omega (arith, at.2, length-map cast (λ c. votes_of cast c)) in
      let number = get_or-map (λ c. votes_of cast c) cast at.0 at.1 0 at.2 in
      omega (arith, is, number, get_or-le-fold_max 0 votes at.0 0 below))
  | inr none ↦ omega arith
]

-- and these are at most the proposals
pub few_votes_cast : (cast : List (List ℕ)) → most_votes cast ≤ length cast
few_votes_cast cast =
    fold_max-le 0 (length cast) (map (λ c. votes_of cast c) cast) (omega arith)
    (All-map (λ n. n ≤ length cast) (λ c. votes_of cast c) cast
    (λ k d _. count_by-le-length (λ c. same_members c (get_or cast k d)) cast))

-- a lesser number reaches less
pub one_if-le : (q a b : ℕ) → a ≤ b → one_if (nat_le q a) ≤ one_if (nat_le q b)
one_if-le q a b le = grind arith

-- a truth value as a number
pub byte_of : (b : Bool) → bool_byte b ≡ cond b 1 0
byte_of true = refl
byte_of false = refl

pub few_cast : (ps : List (Option Proposal)) → length (cast_of ps) ≤ length ps
few_cast [] = omega arith
few_cast (None ∷ ps) = omega (arith, few_cast ps)
few_cast ((Some p) ∷ ps) = omega (arith, few_cast ps)

-- each receiver is silent, or its proposal is cast
pub cast_or_silent : (a : Assignment) (ps : List (Option Proposal))
    → length (cast_of ps) + count_by (λ p. (judged a p).silent) ps ≡ length ps
cast_or_silent a [] = refl
cast_or_silent a (None ∷ ps) = search (arith, sum_by-cons, cast_or_silent a ps)
cast_or_silent a ((Some p) ∷ ps) = grind (arith, cast_or_silent a ps)

-- where the votes reach a quorum, they are as many
pub quorum_of_votes : (q votes : ℕ) → q * one_if (nat_le q votes) ≤ votes
quorum_of_votes q votes = grind arith

-- ---- votes for exactly the targets, apart from the others

-- a list of members more among the others
pub more_others : (cast others : List (List ℕ)) (m t : List ℕ) (n : ℕ)
    → ((q : List ℕ) → votes_of cast q ≡ votes_of (others ++ replicate n t) q)
    → (q : List ℕ) → votes_of (cast ++ m ∷ []) q ≡ votes_of ((others ++ m ∷ []) ++ replicate n t) q
more_others cast others m t n was q =
    let one : List ℕ → ℕ = λ c. cond (same_members c q) 1 0 in
    omega (
      arith,
      was q,
      sum_by_push one cast m,
      sum_by_push one others m,
      sum_by-append one others (replicate n t),
      sum_by-append one (others ++ m ∷ []) (replicate n t),
    )

times_more : (n x : ℕ) → (n + 1) * x ≡ n * x + x
times_more n x = omega arith

-- one more that proposed the targets
pub more_exact : (cast others : List (List ℕ)) (t : List ℕ) (n : ℕ)
    → ((q : List ℕ) → votes_of cast q ≡ votes_of (others ++ replicate n t) q)
    → (q : List ℕ) → votes_of (cast ++ t ∷ []) q ≡ votes_of (others ++ replicate (n + 1) t) q
more_exact cast others t n was q =
    let one : List ℕ → ℕ = λ c. cond (same_members c q) 1 0 in
    let copies = sum_by-replicate one n t in
    let more = sum_by-replicate one (n + 1) t in
    omega (
      arith,
      was q,
      sum_by_push one cast t,
      sum_by-append one others (replicate n t),
      sum_by-append one others (replicate (n + 1) t),
      copies,
      more,
      times_more n (one t),
    )

-- ---- a ballot's entries

abbrev pub has : List ℕ → Vec ℕ → Bool
has members key = same_members members key.items

abbrev pub same_key : Vec ℕ → Vec ℕ → Bool
same_key x y = same_members x.items y.items

-- what contracts see of an entry
abbrev pub shown : Vec ℕ × ℕ → List ℕ × ℕ
shown e = (e.0.items, e.1)

-- a look-up finds the same in the entries as contracts see them
lookup-shown : (q : List ℕ) (es : List (Vec ℕ × ℕ))
    → lookup (same_members q) (map shown es) ≡ lookup (has q) es
lookup-shown q [] = refl
lookup-shown q (e ∷ es) = ap (λ rest. cond (has q e.0) (Some e.1) rest) (lookup-shown q es)

pub votes-shown : (es : List (Vec ℕ × ℕ)) (cast : List (List ℕ)) → HasCounted (map shown es) cast
    → (q : List ℕ) → unwrap_or (lookup (has q) es) 0 ≡ votes_of cast q
votes-shown es cast h q = rw lookup-shown at (h q)

-- votes more for m are none for other members
pub counted_more : {S : Type 0} (old new : HashMap (Vec ℕ) ℕ S) (cast : List (List ℕ)) (m : List ℕ) (n w : ℕ)
    → HasCounted (map shown old.entries) cast → UpdatesBy same_key (has m) old new (Some w)
    → w ≡ unwrap_or (lookup (has m) old.entries) 0 + n
    → HasCounted (map shown new.entries) (cast ++ replicate n m)
unfolding KeepsOthers
counted_more old new cast m n w h put more q =
    let before = votes-shown old.entries cast h in
    ap (λ o. unwrap_or o 0) (lookup-shown q new.entries)
    ∙ elim (cases_Bool (same_members m q)) [
      | inl same ↦ (
          let is : m ≡ q = same_is m q same in
          ap (λ x. unwrap_or (lookup (has x) new.entries) 0) (sym is)
          ∙ ap (λ o. unwrap_or o 0) put.1 ∙ more ∙ ap (λ k. k + n) (before m)
          ∙ ap (λ x. votes_of cast x + n) is ∙ sym (rw (same, mul-one n) refl))
      | inr differ ↦ (
          let other = put.3 (has q) (λ x y. nat_list_eq_equiv.congr q x.items y.items)
          (λ k e. nat_list_eq_equiv.symm q k.items ∙ sym (nat_list_eq_equiv.congr m k.items q e) ∙ differ) in
          ap (λ o. unwrap_or o 0) other ∙ before q ∙ sym (add-zero (votes_of cast q))
          ∙ sym (rw (differ, mul-zero n) refl))
    ]
    ∙ ap (λ k. votes_of cast q + k) (sym (sum_by-replicate (λ c. cond (same_members c q) 1 0) n m))
    ∙ sym (sum_by-append (λ c. cond (same_members c q) 1 0) cast (replicate n m))

-- the greatest value is at least the one that a look-up finds
lookup-le-max : (test : Vec ℕ → Bool) (es : List (Vec ℕ × ℕ)) (a : ℕ)
    → unwrap_or (lookup test es) 0 ≤ fold max a (values_of es)
lookup-le-max test [] a = omega arith
lookup-le-max test (e ∷ es) a =
    grind (arith, le-fold_max, lookup-le-max test es (max a e.1))

-- the greatest of an entry's votes is the largest number of equal proposals
pub most_counted : (es : List (Vec ℕ × ℕ)) (cast : List (List ℕ)) → IsDistinct same_key (keys_of es)
    → HasCounted (map shown es) cast → fold max 0 (values_of es) ≡ most_votes cast
most_counted es cast apart h =
    let votes = votes-shown es cast h in
    let up = All-map (λ n. n ≤ most_votes cast) (λ (e : Vec ℕ × ℕ). e.1) es (λ i d below.
    (let e : Vec ℕ × ℕ = get_or es i d in
    let found = lookup_from_place (on_texts_equal (λ (x : Vec ℕ). x.items)) es i e.0 e.1 apart
    (slice_get-get_or es i d below) in
    omega (arith, ap (λ o. unwrap_or o 0) found, votes e.0.items, most_votes_are_most cast e.0.items))) in
    let most : ℕ = fold max 0 (values_of es) in
    let down = All-map (λ n. n ≤ most) (λ c. votes_of cast c) cast (λ k d _.
    (let found = lookup-le-max (has (get_or cast k d)) es 0 in
    omega (arith, votes (get_or cast k d), found))) in
    let at_most = fold_max-le 0 (most_votes cast) (values_of es) (omega arith) up in
    omega (arith, at_most, fold_max-le 0 most (map (λ c. votes_of cast c) cast) (omega arith) down)
