-- The proposal as the first settled time.
use Rattle.std.proofs.Common.{◌≡◌, ℕ, zero, suc, ◌+◌, ◌<◌, ◌≤◌, Bool, ◌&&◌, nat_le, nat_lt, List}
use Rattle.std.proofs.Common.{option_map, refl, arith}
use Rattle.std.specs.List.{find, range_with_len}
use Rattle.cut_lists.proofs.Ranges.{AgreeOn, filter_agree_on}
use Rattle.cut_lists.proofs.Counts.{some_and_none_agree}
use Rattle.cut_rings.specs.Layout.{Layout}
use Rattle.cut_rings.specs.Edges.{EdgeSet}
use Rattle.cut_detector.specs.Rule.{Rule}
use Rattle.cut_detector.specs.declared.proposal.Proposal.{Proposal}
unfoldable use Rattle.cut_detector.specs.Counts.{
  is_stable,
  is_unstable,
  is_some_stable,
  is_some_unstable,
  is_settled,
  stable_members,
}
use Rattle.cut_detector.specs.Proposal.{proposal_of}
use Rattle.cut_arrivals.specs.proposals.Times.{EdgeTimes, ComesAt, low_of, high_of, members_by, is_settled_by}
use Rattle.cut_arrivals.proofs.Modes.{stable_from_high, unstable_between}

-- where tests agree on a range, and what is made of its numbers does, so does what is made of the first that passes
pub found_agree : {X : Type 0} (p q : ℕ → Bool) (f g : ℕ → X) (a n : ℕ)
    → ((i : ℕ) → a ≤ i → i < a + n → p i ≡ q i) → ((i : ℕ) → a ≤ i → i < a + n → f i ≡ g i)
    → option_map f (find p (range_with_len a n)) ≡ option_map g (find q (range_with_len a n))
found_agree p q f g a zero tests makes = refl
found_agree {X} p q f g a (suc n) tests makes =
    grind (arith, found_agree p q f g (a + 1) n)

-- tests of stable and unstable agree with those by times
stable_agree : (r : Layout) (rule : Rule) (end : ℕ) (E : ℕ → EdgeSet) (at : EdgeTimes) → ComesAt r rule end E at
    → (t : ℕ) → t < end → AgreeOn (λ s. is_stable r rule (E t) s) (λ s. nat_le (high_of end r rule at s) t) 0 r.nodes
stable_agree r rule end E at come t low =
    record { same = λ s _ below. stable_from_high r rule end E at come t s low (omega (arith, below)) }

unstable_agree : (r : Layout) (rule : Rule) (end : ℕ) (E : ℕ → EdgeSet) (at : EdgeTimes) → ComesAt r rule end E at
    → (t : ℕ) → t < end
    → AgreeOn (λ s. is_unstable r rule (E t) s) (λ s. nat_le (low_of end rule at s) t
    && nat_lt t (high_of end r rule at s)) 0 r.nodes
unstable_agree r rule end E at come t low =
    record { same = λ s _ below. unstable_between r rule end E at come t s low (omega (arith, below)) }

settled_by_times : (r : Layout) (rule : Rule) (end : ℕ) (E : ℕ → EdgeSet) (at : EdgeTimes) → ComesAt r rule end E at
    → (t : ℕ) → t < end → is_settled r rule (E t) ≡ is_settled_by r.nodes (low_of end rule at) (high_of end r rule at) t
unfolding is_settled is_some_stable is_some_unstable
settled_by_times r rule end E at come t low =
    some_and_none_agree _ _ _ _ r.nodes (stable_agree r rule end E at come t low)
    (unstable_agree r rule end E at come t low)

members_by_times : (r : Layout) (rule : Rule) (end : ℕ) (E : ℕ → EdgeSet) (at : EdgeTimes) → ComesAt r rule end E at
    → (t : ℕ) → t < end → stable_members r rule (E t) ≡ members_by r.nodes (high_of end r rule at) t
unfolding stable_members
members_by_times r rule end E at come t low = filter_agree_on _ _ 0 r.nodes (stable_agree r rule end E at come t low)

-- a proposal of these members at this place
abbrev pub proposed : List ℕ → ℕ → Proposal
proposed members at = record { members = members; at = at }

pub proposes_by_times : (r : Layout) (rule : Rule) (count : ℕ) (E : ℕ → EdgeSet) (at : EdgeTimes)
    → ComesAt r rule (count + 1) E at
    → proposal_of r rule E count ≡
    option_map (λ t. proposed (members_by r.nodes (high_of (count + 1) r rule at) t) t)
    (find (λ t. is_settled_by r.nodes (low_of (count + 1) rule at) (high_of (count + 1) r rule at) t)
    (range_with_len 1 count))
proposes_by_times r rule count E at come =
    grind (arith, found_agree, settled_by_times, members_by_times)
