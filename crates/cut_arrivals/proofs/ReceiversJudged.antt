-- What a lane's times say of the proposal.
use Rattle.std.proofs.Common.{◌≡◌, ◌≢◌, ◌∙◌, inl, inr, ℕ, ◌/◌, ◌%◌, ◌^◌, ◌<◌, ◌==◌, ◌&&◌, Bool, true, false, not}
use Rattle.std.proofs.Common.{nat_lt, nat_le, cond, if◌then◌else◌, List, [], ◌∷◌, length, filter, slice_index}
use Rattle.std.proofs.Common.{slice_index_or, Option, Some, None, IfSome, refl, ap, sym, subst, arith}
use Rattle.std.specs.List.{All, AllPairs, Contains, list_any, range_with_len}
use Rattle.std.proofs.lemmas.Bool.{and_parts, both_ways, cases_Bool, eq-eqb, eqb-true, lt-ltb, ltb-true}
use Rattle.std.proofs.lemmas.Bool.Decides.{nat_tests}
use Rattle.std.proofs.lemmas.List.{get_or-map}
use Rattle.std.proofs.lemmas.List.Elements.{All-filter}
use Rattle.std.proofs.lemmas.List.Folds.{Any-from_list_any, list_any_at}
use Rattle.std.proofs.lemmas.List.Kept.{AllPairs-from_increasing, AllPairs-filter}
use Rattle.cut_lists.proofs.Ranges.{All-range_with_len, Contains-filter_of, Contains_filter, filter_agree_on}
use Rattle.cut_lists.proofs.Ranges.{none_passing, passing, range-rises}
use Rattle.cut_arrivals.specs.blocks.Images.{never}
use Rattle.cut_arrivals.specs.lanes.Lanes.{lane}
use Rattle.cut_arrivals.specs.ranks.Closing.{is_doubtful}
use Rattle.cut_arrivals.specs.proposals.Times.{members_by}
use Rattle.cut_arrivals.specs.proposals.Candidates.{AreCandidates, IsClosed}
use Rattle.cut_arrivals.specs.proposals.Laws.{ClosesAsProposed, CandidatesShowOther}
use Rattle.cut_arrivals.specs.proposals.Reception.{Reception, lows_at, highs_at}
use Rattle.cut_arrivals.specs.declared.receivers.receivers.Receivers as declared
use Rattle.cut_arrivals.specs.declared.receivers.lane_verdict.LaneVerdict.{LaneVerdict}
use Rattle.cut_arrivals.specs.receivers.Received.{HasReceived}
use Rattle.cut_arrivals.specs.receivers.LaneVerdicts.{flagged, has_bit, members_at, IsVerdictOn}
use Rattle.cut_arrivals.specs.receivers.inside.LaneVerdicts.{is_other}
use Rattle.cut_arrivals.proofs.Flags.{flagged_same, flags_same}

-- ---- bits

pub bit_is : (b : Bool) (v : ℕ) → v ≡ cond b 1 0 → (v == 1) ≡ b
bit_is true v is = ap (λ (w : ℕ). w == 1) is
bit_is false v is = ap (λ (w : ℕ). w == 1) is

-- ---- members among the candidates

filter_both : (p q : ℕ → Bool) (xs : List ℕ) → filter p (filter q xs) ≡ filter (λ x. q x && p x) xs
filter_both p q [] = refl
filter_both p q (x ∷ xs) = grind (arith, filter_both p q xs)

not_not : (b : Bool) → not (not b) ≡ true → b ≡ true
not_not true is = refl
not_not false is = is

absorbed : (a b : Bool) → (b ≡ true → a ≡ true) → a && b ≡ b
absorbed true b up = refl
absorbed false true up = up refl
absorbed false false up = refl

module _ (x : Reception) (subjects : List ℕ) (i : ℕ) (f : declared.Receivers) (h : HasReceived x subjects i f) where
  abbrev n : ℕ
  n = x.layout.nodes

  abbrev first : ℕ
  first = slice_index f.proposal_time.first i

  abbrev time : ℕ
  time = slice_index f.proposal_time.time i

  abbrev is_heard : ℕ → Bool
  is_heard s = nat_lt (lows_at x never s) never

  abbrev pub has_ended : ℕ → Bool
  has_ended s = nat_le (highs_at x never s) time

  pub candidates_are : AreCandidates n never (lows_at x never) (highs_at x never) subjects (lane i f.reported_at.items)
      (lane i f.stable_at.items)
  candidates_are = record {
    processes = subst (All (λ s. s < n)) (sym h.subjects_are)
        (All-filter is_heard (λ s. s < n) (range_with_len 0 n) (All-range_with_len (λ s. s < n) 0 n
        (λ s _ low. omega (arith, low))));
    each = λ s process early. subst (λ ns. Contains ns s) (sym h.subjects_are)
        (Contains_filter is_heard 0 n s (record {
          from = omega arith;
          below = omega
              (arith, process);
          passes = lt-ltb (lows_at x never s) never early;
        }));
    reported_at_are = h.reported_at;
    stable_at_are = h.stable_at;
  }

  pub closed : is_doubtful (lane i f.reported_at.items) first time ≡ false
      → IsClosed n never (lows_at x never) (highs_at x never) (lane i f.reported_at.items) (lane i f.stable_at.items)
      first time
  closed certain = record {
    candidates = (subjects, candidates_are);
    least = h.least;
    proposal_time = h.proposal_time;
    certain = certain;
  }

  -- who has ended by a time that comes is a candidate
  ended_heard : CandidatesShowOther → time < never → (s : ℕ) → s < n → has_ended s ≡ true → is_heard s ≡ true
  ended_heard law comes s process ended =
      let is : ℕ → Bool = λ p. not (not (p == s)) in
      let member : Contains (members_by n (highs_at x never) time) s =
      Contains_filter has_ended 0 n s (record { from = omega arith; below = omega (arith, process); passes = ended }) in
      let found : list_any is (members_by n (highs_at x never) time) ≡ true =
      list_any_at is (members_by n (highs_at x never) time) member.0 s member.1 (ap is member.2
      ∙ ap (λ b. not (not b)) (eq-eqb s s refl)) in
      let known = law x never time subjects (lane i f.reported_at.items) (lane i f.stable_at.items) (λ p. not
      (p == s)) h.reception (omega arith) candidates_are comes in
      let at = Any-from_list_any (λ p. is p && nat_le (highs_at x never p) time) subjects (sym known ∙ found) in
      let same : at.1 ≡ s = eqb-true at.1 s (not_not (at.1 == s) (and_parts (is at.1) (nat_le
      (highs_at x never at.1) time) at.4).0) in
      subst (λ p. is_heard p ≡ true) same
      (Contains-filter_of is_heard 0 n at.1 (subst (λ ns. Contains ns at.1) h.subjects_are (at.0, at.2, at.3))).passes

  pub members_filtered : CandidatesShowOther → time < never
      → members_by n (highs_at x never) time ≡ filter has_ended subjects
  members_filtered law comes =
      sym (ap (λ (ns : List ℕ). filter has_ended ns) h.subjects_are
      ∙ filter_both has_ended is_heard (range_with_len 0 n)
      ∙ filter_agree_on (λ s. is_heard s && has_ended s) has_ended 0 n
      (record { same = λ s _ low. absorbed (is_heard s) (has_ended s) (ended_heard law comes s (omega (arith, low))) }))

  -- the members that are proposed, where nothing is doubted
  pub members_are : ClosesAsProposed → CandidatesShowOther → is_doubtful (lane i f.reported_at.items) first time ≡ false
      → members_at x ≡ (if nat_lt time never then Some (filter has_ended subjects) else None)
  members_are closes law certain =
      closes x never (lane i f.reported_at.items) (lane i f.stable_at.items) first time h.reception (omega arith)
      (closed certain)
      ∙ elim (cases_Bool (nat_lt time never)) [
        | inl comes ↦ rw comes (ap (λ (ms : List ℕ). Some ms) (members_filtered law (ltb-true time never comes)))
        | inr not ↦ rw not refl
      ]

  pub subjects_rise : AllPairs (λ a b. a < b) subjects
  subjects_rise =
      subst (AllPairs (λ a b. a < b)) (sym h.subjects_are)
      (AllPairs-filter (λ a b. a < b) is_heard (range_with_len 0 n) (AllPairs-from_increasing (range_with_len 0 n)
      (range-rises 0 n)))

  -- nothing is doubted where the bit is not set
  pub certain_of : has_bit f.proposal_time.doubt i ≡ false → is_doubtful (lane i f.reported_at.items) first time ≡ false
  certain_of clear = sym (bit_is (is_doubtful (lane i f.reported_at.items) first time)
      (f.proposal_time.doubt / 2 ^ i % 2) h.doubt) ∙ clear

  -- ---- flags of candidates

  pub high_at : (u : ℕ) → u < length subjects
      → slice_index (lane i f.stable_at.items) u ≡ highs_at x never (slice_index subjects u)
  high_at u low = ap (λ (xs : List ℕ). slice_index xs u) h.stable_at
      ∙ get_or-map (λ s. highs_at x never s) subjects u 0 0 low

  le_is_not_lt : (a b : ℕ) → nat_le a b ≡ not (nat_lt b a)
  le_is_not_lt a b = grind (arith, nat_tests)

  ended_at : (u : ℕ) → u < length subjects
      → has_ended (slice_index subjects u) ≡ not (nat_lt time (slice_index (lane i f.stable_at.items) u))
  ended_at u low = le_is_not_lt _ time ∙ ap (λ (a : ℕ). not (nat_lt time a)) (sym (high_at u low))

  agrees : (flag late : Bool) → cond flag late (not late) ≡ false → not late ≡ flag
  agrees true late is = ap not is
  agrees false late is = is

  differs : (flag late : Bool) → cond flag late (not late) ≡ true → not late ≡ flag → ⊥
  differs true true is same = both_ways true (sym same) is
  differs true false is same = both_ways true (sym is) refl
  differs false late is same = both_ways (not late) same is

  pub wanted_members : (flags : List Bool) (m : ℕ) → length flags ≡ length subjects → m ≡ length subjects
      → is_other time (lane i f.stable_at.items) flags m ≡ false → filter has_ended subjects ≡ flagged subjects flags
  wanted_members flags m long all none =
      flagged_same has_ended subjects flags long (λ u low.
      ended_at u low
      ∙ agrees (slice_index_or flags u false) (nat_lt time (slice_index (lane i f.stable_at.items) u))
      (none_passing (λ u. cond (slice_index_or flags u false) (nat_lt time (slice_index (lane i f.stable_at.items) u))
      (not (nat_lt time (slice_index (lane i f.stable_at.items) u))))
      0 m u none (omega arith) (omega (arith, low, all))))

  pub other_members : (flags : List Bool) (m : ℕ) → length flags ≡ length subjects → m ≡ length subjects
      → is_other time (lane i f.stable_at.items) flags m ≡ true → filter has_ended subjects ≢ flagged subjects flags
  other_members flags m long all some same =
      let at = passing (λ u. cond (slice_index_or flags u false) (nat_lt time (slice_index
      (lane i f.stable_at.items) u)) (not (nat_lt time (slice_index (lane i f.stable_at.items) u)))) 0 m some in
      let low : at.0 < length subjects = omega (arith, at.1.below, all) in
      differs (slice_index_or flags at.0 false) (nat_lt time (slice_index (lane i f.stable_at.items) at.0)) at.1.passes
      (sym (ended_at at.0 low) ∙ flags_same has_ended subjects flags long subjects_rise same at.0 low)

-- ---- lane verdicts

pub found : (doubted comes other : Bool) (proposed : Option (List ℕ)) (ended wanted : List ℕ)
    → (doubted ≡ false → proposed ≡ (if comes then Some ended else None))
    → (other ≡ false → ended ≡ wanted) → (other ≡ true → ended ≢ wanted)
    → IsVerdictOn wanted proposed
    (if doubted then LaneVerdict.Doubtful else if not comes then LaneVerdict.Silent else if other then
    LaneVerdict.Other else
    LaneVerdict.Wanted)
found true comes other proposed ended wanted is same differ = tt
found false false other proposed ended wanted is same differ = is refl
found false true true proposed ended wanted is same differ = (ended, is refl, differ refl)
found false true false proposed ended wanted is same differ = is refl ∙ ap (λ (ms : List ℕ). Some ms) (same refl)

pub silent_bit : (comes : Bool) (v mark : ℕ) → v ≡ cond (mark == 1) 1 0 → mark ≡ cond comes 0 1 → (v == 1) ≡ not comes
silent_bit true v mark bit is = ap (λ (w : ℕ). w == 1) (bit ∙ ap (λ (w : ℕ). cond {A = ℕ} (w == 1) 1 0) is)
silent_bit false v mark bit is = ap (λ (w : ℕ). w == 1) (bit ∙ ap (λ (w : ℕ). cond {A = ℕ} (w == 1) 1 0) is)

pub if_some : (comes : Bool) (proposed : Option (List ℕ)) (ended members : List ℕ)
    → proposed ≡ (if comes then Some ended else None)
    → members ≡ ended → IfSome proposed (λ ms. members ≡ ms)
if_some true proposed ended members is same = subst (λ (o : Option (List ℕ)). IfSome o (λ ms. members ≡ ms))
    (sym is) same
if_some false proposed ended members is same = subst (λ (o : Option (List ℕ)). IfSome o (λ ms. members ≡ ms))
    (sym is) tt
