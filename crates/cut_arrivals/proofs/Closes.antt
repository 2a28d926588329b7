-- The closing time and the first settled time.
use Rattle.std.proofs.Common.{◌≡◌, inl, inr, ℕ, ◌+◌, ◌-◌, ◌<◌, ◌≤◌, ◌==◌, Bool, true, false, cond, ◌&&◌, nat_le}
use Rattle.std.proofs.Common.{nat_lt, List, length, get_or, Option, Some, None, MatchOption, option_map, refl, ap, sym}
use Rattle.std.proofs.Common.{◌∙◌, arith}
use Rattle.std.specs.List.{find, list_any, range_with_len}
use Rattle.std.proofs.lemmas.Bool.{and_from, and_parts, both_ways, cases_Bool, cases_lt, eq-eqb, eqb-true, le-leb}
use Rattle.std.proofs.lemmas.Bool.{le-ltb, leb-true, lt-leb, lt-ltb, ltb-true}
use Rattle.std.proofs.lemmas.List.{length-map, get_or-map, get_or_default}
use Rattle.std.proofs.lemmas.List.Folds.{list_any_at}
use Rattle.cut_lists.proofs.Firsts.{NonePasses, IsFirst, found_first}
use Rattle.cut_lists.proofs.Ranges.{filter_agree_on, list_any_passing, list_any_none_passing, none_passing, passing}
use Rattle.cut_arrivals.specs.ranks.Closing.{IsEnough, is_doubtful}
use Rattle.cut_arrivals.specs.proposals.Times.{members_by, is_settled_by}
use Rattle.cut_arrivals.specs.proposals.Rising.{IsRising}
use Rattle.cut_arrivals.specs.proposals.Candidates.{AreTimes, AreCandidates, IsClosed}
use Rattle.cut_arrivals.proofs.Tests.{IsKept, IsTrueFrom, fails_before, turns, two_pass}
use Rattle.cut_arrivals.proofs.RanksRanks.{same_test}
use Rattle.cut_detector.proofs.Places.{not_true}

-- ---- settled times

-- some process is stable by a time, and each that is reported by then
pub record IsSettledBy (n : ℕ) (low high : ℕ → ℕ) (t : ℕ) : Type 0 where
  pub some : (s : ℕ) × (s < n) × (high s ≤ t)
  pub others : (s : ℕ) → s < n → low s ≤ t → high s ≤ t

pub settled-is : (n : ℕ) (low high : ℕ → ℕ) (t : ℕ) → is_settled_by n low high t ≡ true → IsSettledBy n low high t
settled-is n low high t e =
    let parts = and_parts (list_any (λ s. nat_le (high s) t) (range_with_len 0 n)) _ e in
    let at = passing (λ s. nat_le (high s) t) 0 n parts.0 in
    let none : list_any (λ s. nat_le (low s) t && nat_lt t (high s)) (range_with_len 0 n) ≡ false = not_true _ parts.1
    in
    record {
      some = (at.0, (let w = at.1.below in omega arith), leb-true _ _ at.1.passes);
      others = λ s process come. elim (cases_lt t (high s)) [
        | inl not_yet ↦ absurd (both_ways _ (none_passing (λ s. nat_le (low s) t && nat_lt t (high s)) 0 n s none
            (omega arith) (omega (arith, process)))
            (and_from _ _ (le-leb _ _ come) (lt-ltb _ _ not_yet)))
        | inr by_then ↦ by_then
      ];
    }

settled-from : (n : ℕ) (low high : ℕ → ℕ) (t : ℕ) → IsSettledBy n low high t → is_settled_by n low high t ≡ true
settled-from n low high t is =
    let at = is.some in
    let some : list_any (λ s. nat_le (high s) t) (range_with_len 0 n) ≡ true =
    list_any_passing (λ s. nat_le (high s) t) 0 n at.0 (omega arith) (omega (arith, at.1)) (le-leb _ _ at.2) in
    grind (arith, list_any_none_passing)

-- ---- candidates and their places in the lists

-- where a process stands in a list, and its times in others
record StandsAt (low high : ℕ → ℕ) (candidates reported_at stable_at : List ℕ) (s u : ℕ) : Type 0 where
  within : u < length reported_at
  is : get_or candidates u 0 ≡ s
  low_is : get_or reported_at u 0 ≡ low s
  high_is : get_or stable_at u 0 ≡ high s

process_at : (n last : ℕ) (low high : ℕ → ℕ) (candidates reported_at stable_at : List ℕ)
    → AreCandidates n last low high candidates reported_at stable_at
    → (u : ℕ) → u < length reported_at → (s : ℕ) × (s < n) × StandsAt low high candidates reported_at stable_at s u
process_at n last low high candidates reported_at stable_at are u within =
    grind (arith, length-map, get_or-map)

stands : (n last : ℕ) (low high : ℕ → ℕ) (candidates reported_at stable_at : List ℕ)
    → AreCandidates n last low high candidates reported_at stable_at
    → (s : ℕ) → s < n → low s < last → (u : ℕ) × StandsAt low high candidates reported_at stable_at s u
stands n last low high candidates reported_at stable_at are s process early =
    let at = are.each s process early in
    let same : get_or candidates at.0 0 ≡ s = get_or_default candidates at.0 0 s at.1 ∙ at.2 in
    let long : length reported_at ≡ length candidates = ap length are.reported_at_are ∙ length-map candidates low in (
      at.0,
      record {
        within = omega (arith, long, at.1);
        is = same;
        low_is = ap (λ xs. get_or xs at.0 0) are.reported_at_are ∙ get_or-map low candidates at.0 0 0 at.1
            ∙ ap low same;
        high_is = ap (λ xs. get_or xs at.0 0) are.stable_at_are ∙ get_or-map high candidates at.0 0 0 at.1
            ∙ ap high same;
      },
    )

-- no two begin first, and none begins as all has ended
record NoDoubt (reported_at : List ℕ) (first time : ℕ) : Type 0 where
  alone : (u v : ℕ) → u < v → v < length reported_at → get_or reported_at u 0 ≡ first → get_or reported_at v 0 ≡ first
      → ⊥
  apart : (u : ℕ) → u < length reported_at → first < time → get_or reported_at u 0 ≡ time → ⊥

no_doubt : (reported_at : List ℕ) (first time : ℕ) → is_doubtful reported_at first time ≡ false
    → NoDoubt reported_at first time
no_doubt reported_at first time certain = grind (arith, two_pass, list_any_at)

-- ---- closed times

module _ (n count last : ℕ) (low high tau : ℕ → ℕ) (reported_at stable_at : List ℕ) (first time : ℕ)
    (rising : IsRising (count + 1) last tau) (times : AreTimes n (count + 1) low high)
    (closed : IsClosed n last (λ s. tau (low s)) (λ s. tau (high s)) reported_at stable_at first time) where
  abbrev candidates : List ℕ
  candidates = closed.candidates.0

  -- where a process stands that begins in time
  place : (s : ℕ) → s < n → tau (low s) < last → (u : ℕ)
      × StandsAt (λ s. tau (low s)) (λ s. tau (high s)) candidates reported_at stable_at s u
  place s process early = stands n last (λ s. tau (low s)) (λ s. tau (high s)) candidates reported_at stable_at
      closed.candidates.1 s process
      early

  at_place : (u : ℕ) → u < length reported_at → (s : ℕ) × (s < n)
      × StandsAt (λ s. tau (low s)) (λ s. tau (high s)) candidates reported_at stable_at s u
  at_place u within = process_at n last (λ s. tau (low s)) (λ s. tau (high s)) candidates reported_at stable_at
      closed.candidates.1 u within

  undoubted : NoDoubt reported_at first time
  undoubted = no_doubt reported_at first time closed.certain

  -- none begins before the first
  first_is_least : (s : ℕ) → s < n → tau (low s) < last → first ≤ tau (low s)
  first_is_least s process early =
      let u = place s process early in
      let least : first ≤ get_or reported_at u.0 0 = closed.least.below u.0 u.1.within in
      omega (arith, least, u.1.low_is)

  -- and but one begins then
  only_first : (s p : ℕ) → s < n → p < n → low s < low p → first < last → tau (low s) ≡ first → tau (low p) ≡ first → ⊥
  only_first s p one other before early at same =
      let u = place s one (omega (arith, early, at)) in
      let v = place p other (omega (arith, early, same)) in
      elim (cases_lt u.0 v.0) [
        | inl less ↦ undoubted.alone u.0 v.0 less v.1.within (u.1.low_is ∙ at) (v.1.low_is ∙ same)
        | inr not_less ↦ elim (cases_lt v.0 u.0) [
          | inl more ↦ undoubted.alone v.0 u.0 more u.1.within (v.1.low_is ∙ same) (u.1.low_is ∙ at)
          | inr not_more ↦ (
              let places : u.0 ≡ v.0 = omega (arith, not_less, not_more) in
              let equal : s ≡ p = sym u.1.is ∙ ap (λ k. get_or candidates k 0) places ∙ v.1.is in
              let lows_equal : low s ≡ low p = ap low equal in
              omega (arith, before, lows_equal))
        ]
      ]

  -- ---- a settled time is enough

  some_begun : (t : ℕ) → IsSettledBy n low high t → (s : ℕ) × (s < n) × (low s ≤ t)
  some_begun t settled =
      let at = settled.some in
      (at.0, at.1, omega (arith, times.ordered at.0 at.1, at.2))

  first_before : (t : ℕ) → t < count + 1 → IsSettledBy n low high t → first < last
  first_before t low_t settled =
      let at = some_begun t settled in
      let come : tau (low at.0) ≤ tau t = rising.rises (low at.0) t at.2 in
      let early : tau t < last = rising.before t low_t in
      let least : first ≤ tau (low at.0) = first_is_least at.0 at.1 (omega (arith, come, early)) in
      omega (arith, come, early, least)

  -- who begins first does so by each settled time
  first_come : (t : ℕ) → t < count + 1 → IsSettledBy n low high t → (s : ℕ) → s < n → tau (low s) ≡ first → low s ≤ t
  first_come t low_t settled s process at_first = elim (cases_lt t (low s)) [
    | inr come ↦ come
    | inl later ↦ absurd (
        let at = some_begun t settled in
        let early : first < last = first_before t low_t settled in
        let up : tau (low at.0) ≤ tau t = rising.rises (low at.0) t at.2 in
        let on : tau t ≤ tau (low s) = rising.rises t (low s) (omega (arith, later)) in
        let least : first ≤ tau (low at.0) = first_is_least at.0 at.1 (omega (arith, up, on, at_first, early)) in
        only_first at.0 s at.1 process (omega (arith, at.2, later)) early (omega (arith, up, on, at_first, least))
        at_first)
  ]

  settled_is_enough : (t : ℕ) → t < count + 1 → IsSettledBy n low high t → IsEnough first reported_at stable_at (tau t)
  settled_is_enough t low_t settled = record {
    begun = λ u within by_first.
        let s = at_place u within in
        let least : first ≤ get_or reported_at u 0 = closed.least.below u within in
        let come : low s.0 ≤ t = first_come t low_t settled s.0 s.1 (omega (arith, by_first, least, s.2.low_is)) in
        let ended : tau (high s.0) ≤ tau t = rising.rises (high s.0) t (settled.others s.0 s.1 come) in
        omega (arith, ended, s.2.high_is);
    before = λ u within begun.
        let s = at_place u within in
        let come : low s.0 ≤ t = elim (cases_lt t (low s.0)) [
          | inr come ↦ come
          | inl later ↦ absurd (let on : tau t ≤ tau (low s.0) = rising.rises t (low s.0) (omega (arith, later))
              in omega (arith, on, begun, s.2.low_is))
        ] in
        let ended : tau (high s.0) ≤ tau t = rising.rises (high s.0) t (settled.others s.0 s.1 come) in
        omega (arith, ended, s.2.high_is);
  }

  pub closing_before : (t : ℕ) → t < count + 1 → IsSettledBy n low high t → time ≤ tau t
  closing_before t low_t settled = closed.proposal_time.least (tau t) (settled_is_enough t low_t settled)

  -- ---- the last time that the closing one stands for is settled

  abbrev is_after : ℕ → Bool
  is_after t = nat_lt time (tau t)

  after_kept : IsKept is_after
  after_kept = record {
    kept = λ a b before e.
        let late : time < tau a = ltb-true _ _ e in
        let more : tau a ≤ tau b = rising.rises a b before in
        lt-ltb _ _ (omega (arith, late, more));
  }

  -- the first that is after it
  abbrev turn : ℕ
  turn = fails_before is_after (count + 1)

  turn_is : IsTrueFrom is_after (count + 1) turn
  turn_is = turns is_after after_kept (count + 1)

  by_time : (t : ℕ) → t < turn → tau t ≤ time
  by_time t low_t = elim (cases_lt time (tau t)) [
    | inr come ↦ come
    | inl late ↦ absurd (both_ways (is_after t) (turn_is.comes t (omega (arith, low_t, turn_is.within))
        ∙ lt-leb turn t low_t) (lt-ltb _ _ late))
  ]

  before_turn : time < last → (t : ℕ) → t ≤ count + 1 → tau t ≤ time → t < turn
  before_turn ends t within come = elim (cases_lt t turn) [
    | inl less ↦ less
    | inr not_less ↦ elim (cases_lt t (count + 1)) [
      | inl inside ↦ absurd (let late : time < tau t = ltb-true _ _ (turn_is.comes t inside ∙ le-leb turn t not_less)
          in omega (arith, late, come))
      | inr past ↦ absurd (let at : tau t ≡ last = rising.after t past in omega (arith, at, come, ends))
    ]
  ]

  -- who begins first has ended by the closing time
  first_ended : time < last → (s : ℕ) × (s < n) × (high s < turn)
  first_ended ends =
      let at = closed.least.among in
      let at_first : get_or reported_at at.0 0 ≡ first = get_or_default reported_at at.0 0 first at.1 ∙ at.2 in
      let s = at_place at.0 at.1 in
      let ended : get_or stable_at at.0 0 ≤ time = closed.proposal_time.enough.begun at.0 at.1
      (omega (arith, at_first)) in
      (s.0, s.1, before_turn ends (high s.0) (times.within s.0 s.1) (omega (arith, ended, s.2.high_is)))

  -- and so has each that begins by then
  begun_ended : time < last → (s : ℕ) → s < n → low s < turn → high s < turn
  begun_ended ends s process begun =
      let come : tau (low s) ≤ time = by_time (low s) begun in
      let u = place s process (omega (arith, come, ends)) in
      let ended : get_or stable_at u.0 0 ≤ time = elim (cases_lt (get_or reported_at u.0 0) time) [
        | inl before ↦ closed.proposal_time.enough.before u.0 u.1.within before
        | inr at_time ↦ elim (cases_lt first time) [
          | inl late ↦ absurd (undoubted.apart u.0 u.1.within late (omega (arith, at_time, come, u.1.low_is)))
          | inr not_late ↦ closed.proposal_time.enough.begun u.0 u.1.within (omega (arith, not_late, come, u.1.low_is))
        ]
      ] in
      before_turn ends (high s) (times.within s process) (omega (arith, ended, u.1.high_is))

  turn_settled : time < last → IsSettledBy n low high (turn - 1)
  turn_settled ends =
      let at = first_ended ends in
      record {
        some = (at.0, at.1, omega (arith, at.2));
        others = λ s process come.
            let ended : high s < turn = begun_ended ends s process (omega (arith, come, at.2)) in
            omega (arith, ended);
      }

  turn_bounds : time < last → (1 ≤ turn - 1) × (turn - 1 < count + 1) × (tau (turn - 1) ≤ time)
  turn_bounds ends =
      let at = first_ended ends in
      let some : 1 ≤ low at.0 = times.some at.0 at.1 in
      let more : low at.0 ≤ high at.0 = times.ordered at.0 at.1 in
      (omega (arith, some, more, at.2), omega (arith, turn_is.within, at.2), by_time (turn - 1) (omega (arith, at.2)))

  -- ---- the members at a settled time that the closing one stands for

  tied_come : time < last → (t : ℕ) → t < count + 1 → IsSettledBy n low high t → tau t ≡ time → (s : ℕ) → s < n
      → tau (high s) ≤ time → high s ≤ t
  tied_come ends t low_t settled stands_for s process ended = elim (cases_lt t (low s)) [
    | inr come ↦ settled.others s process come
    | inl later ↦ absurd (
        let on : tau t ≤ tau (low s) = rising.rises t (low s) (omega (arith, later)) in
        let up : tau (low s) ≤ tau (high s) = rising.rises (low s) (high s) (times.ordered s process) in
        let at_time : tau (low s) ≡ time = omega (arith, on, up, ended, stands_for) in
        let u = place s process (omega (arith, at_time, ends)) in
        let least : first ≤ tau (low s) = first_is_least s process (omega (arith, at_time, ends)) in
        elim (cases_lt first time) [
          | inl late ↦ undoubted.apart u.0 u.1.within late (u.1.low_is ∙ at_time)
          | inr not_late ↦ (
              let at_first : tau (low s) ≡ first = omega (arith, not_late, at_time, least) in
              let come : low s ≤ t = first_come t low_t settled s process at_first in
              omega (arith, come, later))
        ])
  ]

  members_same : time < last → (t : ℕ) → t < count + 1 → IsSettledBy n low high t → tau t ≡ time
      → members_by n high t ≡ members_by n (λ s. tau (high s)) time
  members_same ends t low_t settled stands_for =
      filter_agree_on (λ s. nat_le (high s) t) (λ s. nat_le (tau (high s)) time) 0 n (record {
        same = λ s _ below. same_test (high s) t (tau (high s)) time
            (λ come. let up : tau (high s) ≤ tau t = rising.rises (high s) t come in omega (arith, up, stands_for))
            (λ ended. tied_come ends t low_t settled stands_for s (omega (arith, below)) ended);
      })

  -- the first settled time is one of those that the closing time stands for
  pub first_settled : (m : ℕ) → IsFirst (λ t. is_settled_by n low high t) 1 count m → (time < last) × (tau m ≡ time)
  first_settled m is =
      let low_m : m < count + 1 = (let below : m < 1 + count = is.below in omega (arith, below)) in
      let upper : time ≤ tau m = closing_before m low_m (settled-is n low high m is.passes) in
      let early : tau m < last = rising.before m low_m in
      let ends : time < last = omega (arith, upper, early) in
      let bounds = turn_bounds ends in
      let lower : tau m ≤ time = elim (cases_lt (turn - 1) m) [
        | inl sooner ↦ absurd (both_ways _ (is.least (turn - 1) bounds.0 sooner)
            (settled-from n low high (turn - 1) (turn_settled ends)))
        | inr later ↦ (let up : tau m ≤ tau (turn - 1) = rising.rises m (turn - 1) later in omega (arith, up, bounds.2))
      ] in
      (ends, omega (arith, upper, lower))

  -- where no time is settled, the closing time is none
  none_ends : NonePasses (λ t. is_settled_by n low high t) 1 count → last ≤ time
  none_ends none = elim (cases_lt time last) [
    | inl ends ↦ absurd (let bounds = turn_bounds ends in
        both_ways _ (none (turn - 1) bounds.0 (omega (arith, bounds.1)))
        (settled-from n low high (turn - 1) (turn_settled ends)))
    | inr never ↦ never
  ]

  -- the members at the first settled time
  members_at : (m : ℕ) → IsFirst (λ t. is_settled_by n low high t) 1 count m → members_by n high m
      ≡ members_by n (λ s. tau (high s)) time
  members_at m is =
      let at = first_settled m is in
      let low_m : m < count + 1 = (let below : m < 1 + count = is.below in omega (arith, below)) in
      members_same at.0 m low_m (settled-is n low high m is.passes) at.1

  -- what is made of them, and of a place that each first settled time is
  pub closes : {X : Type 0} (make : List ℕ → ℕ → X) (place : ℕ)
      → ((m : ℕ) → IsFirst (λ t. is_settled_by n low high t) 1 count m → (ms : List ℕ) → make ms m ≡ make ms place)
      → (q : Option ℕ) → MatchOption q (NonePasses (λ t. is_settled_by n low high t) 1 count)
      (IsFirst (λ t. is_settled_by n low high t) 1 count)
      → option_map (λ t. make (members_by n high t) t) q
      ≡ cond (nat_lt time last) (Some (make (members_by n (λ s. tau (high s)) time) place)) None
  closes make place same None none =
      sym (ap (λ b. cond b (Some (make (members_by n (λ s. tau (high s)) time) place)) None)
      (le-ltb time last (none_ends none)))
  closes make place same (Some m) is =
      ap Some (same m is (members_by n high m) ∙ ap (λ ms. make ms place) (members_at m is))
      ∙ sym (ap (λ b. cond b (Some (make (members_by n (λ s. tau (high s)) time) place)) None)
      (lt-ltb time last (first_settled m is).0))

pub closes_as_settled : (n count last : ℕ) (low high tau : ℕ → ℕ) (reported_at stable_at : List ℕ) (first time : ℕ)
    → IsRising (count + 1) last tau → AreTimes n (count + 1) low high
    → IsClosed n last (λ s. tau (low s)) (λ s. tau (high s)) reported_at stable_at first time
    → option_map (λ t. members_by n high t) (find (λ t. is_settled_by n low high t) (range_with_len 1 count))
    ≡ cond (nat_lt time last) (Some (members_by n (λ s. tau (high s)) time)) None
closes_as_settled n count last low high tau reported_at stable_at first time rising times closed =
    closes n count last low high tau reported_at stable_at first time rising times closed (λ ms _. ms) 0 (λ _ _ _. refl)
    (find (λ t. is_settled_by n low high t) (range_with_len 1 count))
    (found_first (λ t. is_settled_by n low high t) 1 count)

-- ---- the first settled time is the high time of some process

no_high : (n : ℕ) (high : ℕ → ℕ) (m s : ℕ) → list_any (λ s. high s == m) (range_with_len 0 n) ≡ false → s < n → high s
    ≡ m → ⊥
no_high n high m s none process is =
    both_ways _ (none_passing (λ s. high s == m) 0 n s none (omega arith) (omega (arith, process)))
    (eq-eqb (high s) m is)

settled_sooner : (n end : ℕ) (low high : ℕ → ℕ) → AreTimes n end low high → (m : ℕ)
    → list_any (λ s. high s == m) (range_with_len 0 n) ≡ false → IsSettledBy n low high m → (1 ≤ m - 1)
    × IsSettledBy n low high (m - 1)
settled_sooner n end low high times m none settled =
    grind (arith, no_high n high m)

pub first_is_high : (n end count : ℕ) (low high : ℕ → ℕ) → AreTimes n end low high → (m : ℕ)
    → IsFirst (λ t. is_settled_by n low high t) 1 count m → (s : ℕ) × (s < n) × (high s ≡ m)
first_is_high n end count low high times m is = elim (cases_Bool (list_any (λ s. high s == m) (range_with_len 0 n))) [
  | inl some ↦ (let at = passing (λ s. high s == m) 0 n some in
      (at.0, (let w = at.1.below in omega arith), eqb-true (high at.0) m at.1.passes))
  | inr none ↦ absurd (
      let sooner = settled_sooner n end low high times m none (settled-is n low high m is.passes) in
      both_ways _ (is.least (m - 1) sooner.0 (omega (arith, sooner.0))) (settled-from n low high (m - 1) sooner.1))
]
