-- What masks of the rings that count say of the modes of the processes.
use Rattle.std.proofs.Common.{◌≡◌, inl, inr, ℕ, ◌<◌, ◌≤◌, false, ◌==◌, ◌&&◌, IsTrue, not, List, replicate}
use Rattle.std.proofs.Common.{vec_len, nat_le, nat_lt, ap, arith}
use Rattle.cut_detector.proofs.Words.{AgreeOn, EdgeSet, HoldsFull, Layout, Reports, Rule, and_left, cases_lt}
use Rattle.cut_detector.proofs.Words.{count_by_agree, edges_in, filter, filter_agree_on, full_count, get_or_past}
use Rattle.cut_detector.proofs.Words.{is_full, is_reported, is_settled, is_some_stable, is_some_unstable, is_stable}
use Rattle.cut_detector.proofs.Words.{is_unstable, leb-true, list_any, list_any_none_passing}
use Rattle.cut_detector.proofs.Words.{range_with_len, ring_count, rings_full, rule_in, some_and_none_agree}
use Rattle.cut_detector.proofs.Words.{stable_in, stable_members, unstable_in}
use Rattle.cut_lists.proofs.BitSets.{has_bit-zeros}
use Rattle.cut_detector.proofs.Modes.{reports_of-le, no_reports}
use Rattle.cut_detector.proofs.Counting.{rings_full-zero}

-- with no edge no ring counts
is_full-empty : (r : Layout) (rule : Rule) (n ring s : ℕ) → 1 ≤ rule.l
    → is_full r rule (edges_in (replicate n 0)) ring s ≡ false
unfolding is_full is_reported
is_full-empty r rule n ring s low =
    let E : EdgeSet = edges_in (replicate n 0) in
    grind (arith, no_reports rule E s, has_bit-zeros n)

pub is_settled-empty : (r : Layout) (rule : Rule) (n : ℕ) → 1 ≤ rule.l → rule.l ≤ rule.h
    → is_settled r rule (edges_in (replicate n 0)) ≡ false
unfolding is_settled is_some_stable is_stable
is_settled-empty r rule n low high =
    let E : EdgeSet = edges_in (replicate n 0) in
    and_left _ _ (list_any_none_passing _ 0 r.nodes (λ s _ _ t.
    let many : rule.h ≤ full_count r rule E s = leb-true _ _ t in
    let none : full_count r rule E s ≡ 0 = no_reports rule (is_full r rule E) s
    (λ ring _. is_full-empty r rule n ring s low) in
    omega arith))

pub HoldsFull_empty : (r : Layout) (rule : Rule) (reported full : List ℕ) (m n : ℕ) → 1 ≤ rule.l → reported
    ≡ replicate m 0 → full ≡ replicate n 0 → HoldsFull r rule reported full
HoldsFull_empty r rule reported full m n low none empty ring s _ _ =
    grind (arith, has_bit-zeros, is_full-empty)

-- the tally counts what the definitions do
pub rings_full-is : (s : Reports) (p : ℕ) → p < s.rings.now.nodes → rings_full s.tally.full p
    ≡ full_count s.rings.now (rule_in s.tally.rule) (edges_in s.reported.masks.items) p
rings_full-is s p inside =
    grind (arith, count_by_agree)

stable_in-is : (s : Reports) → AgreeOn (stable_in s.tally.rule s.tally.full)
    (is_stable s.rings.now (rule_in s.tally.rule) (edges_in s.reported.masks.items)) 0 s.rings.now.nodes
unfolding is_stable
stable_in-is s = record { same = λ p _ below. ap (nat_le s.tally.rule.h) (rings_full-is s p (omega arith)) }

unstable_in-is : (s : Reports) → AgreeOn (unstable_in s.tally.rule s.tally.full)
    (is_unstable s.rings.now (rule_in s.tally.rule) (edges_in s.reported.masks.items)) 0 s.rings.now.nodes
unfolding is_unstable
unstable_in-is s = record {
  same = λ p _ below. ap (λ n. nat_le s.tally.rule.l n && nat_lt n s.tally.rule.h)
      (rings_full-is s p (omega arith));
}

pub settled_is : (s : Reports) → list_any (stable_in s.tally.rule s.tally.full)
    (range_with_len 0 (vec_len s.tally.full.masks))
    && not (list_any (unstable_in s.tally.rule s.tally.full) (range_with_len 0 (vec_len s.tally.full.masks)))
    ≡ is_settled s.rings.now (rule_in s.tally.rule) (edges_in s.reported.masks.items)
unfolding is_settled is_some_stable is_some_unstable
settled_is s =
    grind (arith, some_and_none_agree, stable_in-is, unstable_in-is)

pub members_are : (s : Reports) → filter (stable_in s.tally.rule s.tally.full)
    (range_with_len 0 (vec_len s.tally.full.masks))
    ≡ stable_members s.rings.now (rule_in s.tally.rule) (edges_in s.reported.masks.items)
unfolding stable_members
members_are s =
    grind (arith, filter_agree_on, stable_in-is s)

-- each reported process is touched
pub reported-touched : (s : Reports) (p : ℕ) → 0 < ring_count s.reported.k (edges_in s.reported.masks.items) p
    → IsTrue (list_any (λ q. p == q) s.tally.touched.items)
reported-touched s p some = elim (cases_lt p s.rings.now.nodes) [
  | inl inside ↦ (
      let R : Rule = rule_in s.tally.rule in
      let E : EdgeSet = edges_in s.reported.masks.items in
      grind (arith, reports_of-le s.rings.now R E p, rings_full-is s p inside))
  | inr past ↦ grind (arith, rings_full-zero s.reported p, get_or_past s.reported.masks.items p 0)
]
