-- What equal watermarks, a wider gap between them and implicit alerts change.
use Rattle.std.proofs.Common.{◌≡◌, inl, inr, ℕ, ◌<◌, ◌≤◌, Bool, true, false, IsTrue, List, Option, Some}
use Rattle.std.proofs.Common.{None, MatchOption, arith, ◌↔◌, sym, ◌∙◌}
use Rattle.cut_detector.proofs.Words.{or-false, AgreeOn, Edge, EdgeSet, Grows, IsMarked, IsOfLeastPlace, IsSettled}
use Rattle.cut_detector.proofs.Words.{Layout, Proposal, ProposesBefore, Rule, cases_lt, false_from_ne_true}
use Rattle.cut_detector.proofs.Words.{filter_agree_on, first_of, full_count, is_edge, is_full, is_reported}
use Rattle.cut_detector.proofs.Words.{is_settled, is_some_stable, is_some_unstable, is_stable, is_unstable}
use Rattle.cut_detector.proofs.Words.{proposal_of, reports_of, rule_of}
use Rattle.cut_detector.proofs.Words.{some_and_none_agree, stable_members}
use Rattle.std.proofs.lemmas.Bool.{or_left}
use Rattle.cut_lists.proofs.Counts.{list_any_take-le}
use Rattle.cut_detector.proofs.Modes.{IsWithin, ring_count-le, is_reported-more, stable-is, is_stable-from, unstable-is}
use Rattle.cut_detector.proofs.Modes.{is_unstable-from, is_stable-equal, equal_none_unstable}
use Rattle.cut_detector.proofs.Places.{NoneSettled, proposes}

is_full-more : (r : Layout) (rule : Rule) (E F : EdgeSet) → IsWithin E F
    → IsWithin (is_full r rule E) (is_full r rule F)
unfolding is_full
is_full-more r rule E F within = grind (arith, is_reported-more)

-- where edges are added no ring stops counting
pub full_count-grows : (r : Layout) (rule : Rule) (E F : EdgeSet) (s : ℕ) → IsWithin E F → full_count r rule E s
    ≤ full_count r rule F s
full_count-grows r rule E F s within = ring_count-le rule.k (is_full r rule E) (is_full r rule F) s
    (is_full-more r rule E F within)

-- the gap of one rule lies within that of another, and the same rings count
record IsWithinGap (r : Layout) (inner outer : Rule) : Type 0 where
  low : outer.l ≤ inner.l
  gap : inner.l ≤ inner.h
  high : inner.h ≤ outer.h
  same : (E : EdgeSet) (s : ℕ) → full_count r outer E s ≡ full_count r inner E s

proposes-before : (r : Layout) (inner outer : Rule) (E : ℕ → EdgeSet) (count : ℕ) → IsWithinGap r inner outer → Grows E
    → ProposesBefore (proposal_of r inner E count) (proposal_of r outer E count)
proposes-before r inner outer E count wide grows = go (proposal_of r outer E count) (proposal_of r inner E count)
    (proposes r outer E count) (proposes r inner E count)
  where
    settled : (n : ℕ) → IsSettled r outer (E n) → IsSettled r inner (E n)
    settled n is =
        let s = is.some_stable.0 in
        let many : outer.h ≤ full_count r outer (E n) s = stable-is r outer (E n) s is.some_stable.2 in
        record {
          some_stable = (
            s,
            is.some_stable.1,
            is_stable-from r inner (E n) s
                (omega (arith, wide.high, wide.same (E n) s)),
          );
          none_unstable = λ q process t.
              let parts = unstable-is r inner (E n) q t in
              let same : full_count r outer (E n) q ≡ full_count r inner (E n) q = wide.same (E n) q in
              is.none_unstable q process (is_unstable-from r outer (E n) q (omega (arith, wide.low, parts.0))
              (omega (arith, wide.high, parts.1)));
        }

    member : (m n s : ℕ) → m ≤ n → s < r.nodes → IsSettled r outer (E n) → IsTrue (is_stable r inner (E m) s)
        → IsTrue (is_stable r outer (E n) s)
    member m n s before process is stable =
        let many : inner.h ≤ full_count r inner (E m) s = stable-is r inner (E m) s stable in
        let more : full_count r inner (E m) s ≤ full_count r inner (E n) s = full_count-grows r inner (E m) (E n) s
        (record { all = λ ring q e. grows m n ring q before e }) in
        let same : full_count r outer (E n) s ≡ full_count r inner (E n) s = wide.same (E n) s in
        grind (arith, is_unstable-from r outer (E n) s, is_stable-from r outer (E n) s)

    go : (p q : Option Proposal) → MatchOption p (NoneSettled r outer E count) (IsOfLeastPlace r outer E count)
        → MatchOption q (NoneSettled r inner E count) (IsOfLeastPlace r inner E count) → ProposesBefore q p
    go None q first second = tt
    go (Some p) None first second = second p.at first.from_first first.to_last (settled p.at first.settled)
    go (Some p) (Some q) first second =
        let before : q.at ≤ p.at = elim (cases_lt p.at q.at) [
          | inl later ↦ absurd (second.least p.at first.from_first later (settled p.at first.settled))
          | inr in_time ↦ in_time
        ] in (
          before,
          (λ s at.
              let found = (second.members s).0 at in
              (first.members s).1 (found.0, member q.at p.at s before found.0 first.settled found.1)),
        )

pub higher_before : (r : Layout) (k g h l : ℕ) (implicit : Bool) (E : ℕ → EdgeSet) (count : ℕ) → l ≤ h → h ≤ g → Grows E
    → ProposesBefore (proposal_of r (rule_of k h l implicit) E count) (proposal_of r (rule_of k g l implicit) E count)
unfolding is_full is_reported
higher_before r k g h l implicit E count gap high =
    grind (arith, proposes-before)

pub wider_before : (r : Layout) (k g h l m : ℕ) (E : ℕ → EdgeSet) (count : ℕ) → m ≤ l → l ≤ h → h ≤ g → Grows E
    → ProposesBefore (proposal_of r (rule_of k h l false) E count) (proposal_of r (rule_of k g m false) E count)
unfolding is_full is_reported
wider_before r k g h l m E count low gap high =
    grind (arith, proposes-before)

-- an edge of the first m entries is one of the first n
pub first_of_grows : (edges : List Edge) → Grows (first_of edges)
first_of_grows edges m n ring s before is = list_any_take-le (λ e. is_edge ring s e) m n edges before is

full_count-on : (r : Layout) (k h l : ℕ) (E : EdgeSet) (s : ℕ) → full_count r (rule_of k h l false) E s
    ≤ full_count r (rule_of k h l true) E s
unfolding is_full is_reported
full_count-on r k h l E s =
    ring_count-le k _ (is_full r (rule_of k h l true) E) s
    (record { all = λ ring q e. or_left (E ring q) _ (sym (or-false (E ring q)) ∙ e) })

pub stable_on : (r : Layout) (k h l : ℕ) (E : EdgeSet) (s : ℕ) → IsTrue (is_stable r (rule_of k h l false) E s)
    → IsTrue (is_stable r (rule_of k h l true) E s)
stable_on r k h l E s is =
    search (arith, stable-is, is_stable-from, full_count-on)

pub marked_on : (r : Layout) (k h l : ℕ) (E : EdgeSet) (s : ℕ) → l ≤ h → IsMarked r (rule_of k h l false) E s
    → IsMarked r (rule_of k h l true) E s
marked_on r k h l E s low marked = elim (cases_lt (full_count r (rule_of k h l true) E s) h) [
  | inl below ↦ inr (is_unstable-from r (rule_of k h l true) E s
      (omega (arith, full_count-on r k h l E s, marked_low marked)) below)
  | inr enough ↦ inl (is_stable-from r (rule_of k h l true) E s enough)
]
  where
    marked_low : IsMarked r (rule_of k h l false) E s → l ≤ full_count r (rule_of k h l false) E s
    marked_low (inl is) = let many : h ≤ full_count r (rule_of k h l false) E s = stable-is r (rule_of k h l false) E s
        is in omega arith
    marked_low (inr is) = (unstable-is r (rule_of k h l false) E s is).0

pub stable_by_reports : (r : Layout) (rule : Rule) (E : EdgeSet) (s : ℕ) → rule.l ≡ rule.h
    → IsTrue (is_stable r rule E s) ↔ (rule.h ≤ reports_of rule E s)
stable_by_reports r rule E s equal = grind (arith, is_stable-equal)

stable_agrees : (r : Layout) (k h : ℕ) (E : EdgeSet)
    → AgreeOn (λ s. is_stable r (rule_of k h h true) E s) (λ s. is_stable r (rule_of k h h false) E s) 0 r.nodes
stable_agrees r k h E = grind (arith, is_stable-equal)

never_unstable : (r : Layout) (rule : Rule) (E : EdgeSet) (s : ℕ) → rule.l ≡ rule.h → is_unstable r rule E s ≡ false
never_unstable r rule E s equal = false_from_ne_true _ (λ t. equal_none_unstable r rule E s equal t)

unstable_agrees : (r : Layout) (k h : ℕ) (E : EdgeSet)
    → AgreeOn (λ s. is_unstable r (rule_of k h h true) E s) (λ s. is_unstable r (rule_of k h h false) E s) 0 r.nodes
unstable_agrees r k h E = grind (arith, never_unstable)

settled_agrees : (r : Layout) (k h : ℕ) (E : EdgeSet) → is_settled r (rule_of k h h true) E
    ≡ is_settled r (rule_of k h h false) E
unfolding is_settled is_some_stable is_some_unstable
settled_agrees r k h E =
    some_and_none_agree _ _ _ _ r.nodes (stable_agrees r k h E) (unstable_agrees r k h E)

members_agree : (r : Layout) (k h : ℕ) (E : EdgeSet) → stable_members r (rule_of k h h true) E
    ≡ stable_members r (rule_of k h h false) E
unfolding stable_members
members_agree r k h E = filter_agree_on _ _ 0 r.nodes (stable_agrees r k h E)

pub implicit_changes_nothing : (r : Layout) (k h : ℕ) (E : ℕ → EdgeSet) (count : ℕ)
    → proposal_of r (rule_of k h h true) E count ≡ proposal_of r (rule_of k h h false) E count
implicit_changes_nothing r k h E count =
    grind (arith, settled_agrees, members_agree)

-- no process is stable at places with a property
abbrev NoneStable : Layout → Rule → (ℕ → EdgeSet) → (ℕ → Type 0) → Type 0
NoneStable r rule E P = (n s : ℕ) → 1 ≤ n → P n → s < r.nodes → IsTrue (is_stable r rule (E n) s) → ⊥

pub first_stable : (r : Layout) (rule : Rule) (E : ℕ → EdgeSet) (count : ℕ) → rule.l ≡ rule.h
    → MatchOption (proposal_of r rule E count)
    (NoneStable r rule E (λ n. n ≤ count)) (λ p. NoneStable r rule E (λ n. n < p.at))
first_stable r rule E count equal = go (proposal_of r rule E count) (proposes r rule E count)
  where
    unstable : (n s : ℕ) → (IsSettled r rule (E n) → ⊥) → s < r.nodes → IsTrue (is_stable r rule (E n) s) → ⊥
    unstable n s fails process is = grind (arith, equal_none_unstable)

    go : (q : Option Proposal) → MatchOption q (NoneSettled r rule E count) (IsOfLeastPlace r rule E count)
        → MatchOption q (NoneStable r rule E (λ n. n ≤ count)) (λ p. NoneStable r rule E (λ n. n < p.at))
    go None none = λ n s low high. unstable n s (none n low high)
    go (Some p) first = λ n s low high. unstable n s (first.least n low high)

-- the laws, by what they are about
pub ruleset equal_watermarks = (stable_by_reports, equal_none_unstable, implicit_changes_nothing, first_stable)

pub ruleset wider_gap = (higher_before, wider_before, first_of_grows)
