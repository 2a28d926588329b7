-- One trial: its numbers are its outcome once its parts are those of the plan, and they are possible ones.
use Rattle.std.proofs.Common.{◌≡◌, ℕ, ◌+◌, ◌-◌, ◌*◌, ◌/◌, ◌^◌, ◌<◌, ◌≤◌, min, Bool, true, List, [], ◌∷◌, ◌++◌}
use Rattle.std.proofs.Common.{Option, Some, None, option_map, get_or, map, length, refl, sym, ap, ◌∙◌, arith, nat_le}
use Rattle.cut_outcome.proofs.Words.{Contains, IfSome, count_by, slice_get, early, rule_of, Cell, Values, IsPlan}
use Rattle.cut_outcome.proofs.Words.{cells_of, deliveries_at, largest, trial_count, Edge, Layout, Source, source_of}
use Rattle.cut_outcome.proofs.Words.{Assignment, drawn, alert_list, Proposal, receivers_of, targets_of, judged}
use Rattle.cut_outcome.proofs.Words.{quorum_of, votes_of, most_votes, cast_of, rings_of, receiver_proposal, totals_of}
use Rattle.cut_outcome.proofs.Words.{cell_at}
use Rattle.cut_outcome.proofs.Words.{no_cell, one_if, outcome, place_of, place_for, settled_of, IsPlaced, AreByVotes}
use Rattle.cut_outcome.proofs.Words.{ArePossible, LiesWithin}
use Rattle.std.specs.List.{sum_by}
use Rattle.std.proofs.lemmas.Nat.{div_below}
use Rattle.std.proofs.lemmas.List.{length-map, length_push}
use Rattle.std.proofs.lemmas.List.Elements.{All-map, Contains-get_or}
use Rattle.std.proofs.lemmas.List.FromFn.{length-map-range_with_len}
use Rattle.std.proofs.lemmas.List.Sums.{count_by-le-length, sum_by_push}
use Rattle.std.proofs.lemmas.Option.{get_or_from_slice_get}
use mir.Val.{bool_byte}
use Rattle.cut_lists.proofs.Counts.{counts-apart}
use Rattle.cut_outcome.proofs.FastRound.{cast_or_silent, few_cast, few_votes_cast, most_votes_are_most}
use Rattle.cut_outcome.proofs.FastRound.{one_if-le, quorum_of_votes}
use Rattle.cut_outcome.proofs.Places.{IsPlacedBy, few_deliveries, placed, places_from, places_within, settled_by}
use Rattle.cut_outcome.proofs.Roles.{receivers_are_the_rest}
use Rattle.cut_fields.specs.declared.version.Version.{Version}
use Rattle.cut_fields.specs.declared.version.Version.TheVariants.{One, Two}
use Rattle.cut_plan.specs.Failing.{version_of}

-- ---- the parts of a trial

pub outcome_from : (v : Values) (t : ℕ) (c : Cell) (r : Layout) (d after : Source) (a : Assignment)
    (edges : List Edge)
    → c ≡ cell_at v t → r ≡ rings_of v → d ≡ source_of v.seed t → after ≡ d → a ≡ drawn v c.f d r
    → edges ≡ alert_list r a c.k
    → totals_of v c a (map (λ j. receiver_proposal v c r after edges j) (receivers_of a)) ≡ outcome v t
unfolding outcome
outcome_from v t c r d after a edges cell_is rings_are draws_are same roles_are edges_are =
    rw (same, edges_are, roles_are, cell_is, rings_are, draws_are)

-- a plan has as many rings as its largest number of rings
pub rings_length : (v : Values) (r : Layout) → r ≡ rings_of v → length r.positions ≡ largest v.k
rings_length v r is = ap (λ (x : Layout). length x.positions) is ∙ length-map-range_with_len _ 0 (largest v.k)

-- the cell that is read at a trial's place is the trial's
pub cell_read : (v : Values) (t i : ℕ) (c : Cell) → slice_get (cells_of v) i ≡ Some c → i ≡ t / v.repeats
    → c ≡ cell_at v t
cell_read v t i c at place = sym (get_or_from_slice_get (cells_of v) i c no_cell at)
    ∙ ap (λ k. get_or (cells_of v) k no_cell) place

-- the cell of a trial is one of the plan's
pub cell_listed : (v : Values) (t : ℕ) → IsPlan v → t < trial_count v → Contains (cells_of v) (cell_at v t)
cell_listed v t plan inside =
    grind (arith, Contains-get_or, div_below)

-- a count with one receiver more
pub count_more : (p : Option Proposal → Bool) (ps : List (Option Proposal)) (x : Option Proposal)
    (b : Bool) (old n r : ℕ)
    → length ps < 2 ^ 32 → old ≡ count_by p ps → b ≡ p x → n ≡ bool_byte b
    → r ≡ min (old + n) 18446744073709551615 → r ≡ count_by p (ps ++ x ∷ [])
count_more p ps x b old n r few was same one is =
    grind (arith, count_by-le-length, sum_by_push)

-- a sum of places with one more, of fewer receivers than would make it more than 64 bits hold
pub record PlacesMore (ps : List (Option Proposal)) (x : Option Proposal) (r : ℕ) : Type 0 where
  pub sum : r ≡ sum_by place_of (ps ++ x ∷ [])
  pub few : r ≤ (2 ^ 32 - 1) * length (ps ++ x ∷ [])

pub places_more : (ps : List (Option Proposal)) (x : Option Proposal) (old n r : ℕ)
    → length ps < 2 ^ 32 → old ≡ sum_by place_of ps → old ≤ (2 ^ 32 - 1) * length ps → n < 2 ^ 32 → n ≡ place_of x
    → r ≡ min (old + n) 18446744073709551615 → PlacesMore ps x r
places_more ps x old n r few was low small same is =
    grind (arith, sum_by_push, length_push)

-- the same, as a plan's version asks for places
pub record SettledMore (version : Version) (ps : List (Option Proposal)) (x : Option Proposal) (r : ℕ) : Type 0 where
  pub sum : r ≡ settled_of version (ps ++ x ∷ [])
  pub few : r ≤ (2 ^ 32 - 1) * length (ps ++ x ∷ [])

pub settled_more : (version : Version) (ps : List (Option Proposal)) (x : Option Proposal) (old n r : ℕ)
    → length ps < 2 ^ 32 → old ≡ settled_of version ps → old ≤ (2 ^ 32 - 1) * length ps → n < 2 ^ 32
    → IsPlaced version n x → r ≡ min (old + place_for version n) 18446744073709551615
    → SettledMore version ps x r
settled_more One ps x old n r few was low small placed is = grind arith
settled_more Two ps x old n r few was low small placed is =
    let more = places_more ps x old n r few was low small (sym placed) is in
    record { sum = more.sum; few = more.few }

-- no proposal has no place
pub nowhere : (version : Version) → IsPlaced version 0 None
nowhere One = tt
nowhere Two = refl

-- a proposal is at its place
pub placed_at : (version : Version) (place : ℕ) (p : Option Proposal) → IfSome p (λ x. x.at ≡ place)
    → IfSome p (λ x. IsPlaced version place (Some x))
placed_at version place None is = tt
placed_at One place (Some x) is = tt
placed_at Two place (Some x) is = is

-- what a receiver proposed, by its members
pub none_proposed : (p : Option Proposal) → None ≡ option_map (λ (x : Proposal). x.members) p → p ≡ None
none_proposed None is = refl
none_proposed (Some p) is = cc

pub some_proposed : (p : Option Proposal) (m : List ℕ) → Some m ≡ option_map (λ (x : Proposal). x.members) p
    → (q : Proposal) × (p ≡ Some q) × (q.members ≡ m)
some_proposed None m is = absurd (cc)
some_proposed (Some q) m is = (q, refl, cc)

-- ---- the whole of a trial

abbrev pub roles_in : Values → ℕ → Assignment
roles_in v t = drawn v (cell_at v t).f (source_of v.seed t) (rings_of v)

abbrev pub edges_in : Values → ℕ → List Edge
edges_in v t = alert_list (rings_of v) (roles_in v t) (cell_at v t).k

abbrev pub proposed_in : Values → ℕ → ℕ → Option Proposal
proposed_in v t j = receiver_proposal v (cell_at v t) (rings_of v) (source_of v.seed t) (edges_in v t) j

silent_is_no_conflict : (a : Assignment) (p : Option Proposal) → (judged a p).conflict ≡ true
    → (judged a p).silent ≡ true → ⊥
silent_is_no_conflict a None conflict silent = cc
silent_is_no_conflict a (Some p) conflict silent = cc

pub silent_is_not_extra : (a : Assignment) (p : Option Proposal) → (judged a p).extra ≡ true
    → (judged a p).silent ≡ true → ⊥
silent_is_not_extra a None extra silent = cc
silent_is_not_extra a (Some p) extra silent = cc

one_if-at_most : (q a : ℕ) → one_if (nat_le q a) ≤ 1
one_if-at_most q a = grind arith

-- each receiver that proposes does so by the last delivery
module _ (v : Values) (t : ℕ) where
  abbrev proposals : List (Option Proposal)
  proposals = map (λ j. proposed_in v t j) (receivers_of (roles_in v t))

  abbrev is_silent : Option Proposal → Bool
  is_silent p = (judged (roles_in v t) p).silent

  as_many_proposals : length proposals ≡ v.nodes - (cell_at v t).f
  as_many_proposals = length-map (receivers_of (roles_in v t)) (λ j. proposed_in v t j)
      ∙ receivers_are_the_rest v (cell_at v t).f (source_of v.seed t) (rings_of v)

  places : LiesWithin (v.nodes - (cell_at v t).f - count_by is_silent proposals) (deliveries_at v t)
      (sum_by place_of proposals)
  places =
      let c : Cell = cell_at v t in
      let each = All-map (λ o. IsPlacedBy (deliveries_at v t) o) (λ j. proposed_in v t j)
      (receivers_of (roles_in v t)) (λ i x _.
      (let j : ℕ = get_or (receivers_of (roles_in v t)) i x in
      placed (rings_of v) (rule_of c.k c.h c.l v.implicit)
      (λ n. early (source_of v.seed t) j c.k (edges_in v t) v.copies n) (deliveries_at v t))) in
      rw as_many_proposals at (places_within (roles_in v t) (deliveries_at v t) proposals each)

  pub settled_lies_within : version_of v.failing ≡ Two
      → LiesWithin ((outcome v t).receivers - (outcome v t).silent) (deliveries_at v t) (outcome v t).settled
  unfolding outcome
  settled_lies_within two = rw two places

  -- where each receiver that proposes does so after b deliveries or more
  pub settled_from : (b : ℕ) → version_of v.failing ≡ Two
      → ((j : ℕ) → IfSome (proposed_in v t j) (λ p. b ≤ p.at))
      → b * ((outcome v t).receivers - (outcome v t).silent) ≤ (outcome v t).settled
  unfolding outcome
  settled_from b two each =
      let late = All-map (λ o. IfSome o (λ (p : Proposal). b ≤ p.at)) (λ j. proposed_in v t j)
      (receivers_of (roles_in v t)) (λ i x _. each (get_or (receivers_of (roles_in v t)) i x)) in
      rw two (rw as_many_proposals at (places_from (roles_in v t) b proposals late))

  pub by_votes : AreByVotes v (outcome v t)
  unfolding outcome
  by_votes = record {
    votes = omega (
      arith,
      as_many_proposals,
      few_votes_cast (cast_of proposals),
      cast_or_silent (roles_in v t) proposals,
    );
    decided = quorum_of_votes (quorum_of v.nodes) (most_votes (cast_of proposals));
  }

  pub possible_outcome : ArePossible v (cell_at v t) 1 (outcome v t)
  unfolding outcome
  possible_outcome =
      let a : Assignment = roles_in v t in
      let ps : List (Option Proposal) = proposals in
      let all : length ps ≡ v.nodes - (cell_at v t).f = as_many_proposals in
      let conflicts = counts-apart (λ p. (judged a p).conflict) is_silent ps (silent_is_no_conflict a) in
      let extra = counts-apart (λ p. (judged a p).extra) is_silent ps (silent_is_not_extra a) in
      let most = most_votes_are_most (cast_of ps) (targets_of a) in
      record {
        counted = record {
          receivers = omega arith;
          conflicts = omega (arith, all, conflicts);
          extra = omega (arith, all, extra);
          votes = omega (arith, all, few_votes_cast (cast_of ps), few_cast ps);
          decided = one_if-at_most (quorum_of v.nodes) (most_votes (cast_of ps));
          right = one_if-le (quorum_of v.nodes) (votes_of (cast_of ps) (targets_of a))
              (most_votes (cast_of ps)) most;
        };
        settled = settled_by (version_of v.failing) ps _ (deliveries_at v t) _ places
            (few_deliveries (rings_of v) a (cell_at v t).k v.copies);
      }
