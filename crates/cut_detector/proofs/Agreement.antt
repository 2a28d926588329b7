-- What a recount finds depends only on the edges of the rule's rings and of the processes.
use Rattle.std.proofs.Common.{◌≡◌, ℕ, ◌<◌, ◌&&◌, nat_le, nat_lt, ap, arith}
use Rattle.cut_detector.proofs.Words.{settled_proposal, AgreeOn, EdgeSet, Layout, Rule, count_by_agree, filter_agree_on}
use Rattle.cut_detector.proofs.Words.{full_count, is_full, is_reported, is_settled, is_some_stable}
use Rattle.cut_detector.proofs.Words.{is_some_unstable, is_stable, is_unstable, observer_of, reports_of}
use Rattle.cut_detector.proofs.Words.{some_and_none_agree, stable_members}

-- two sets have the same edges on the first k rings and of n processes
pub record SameEdges (k n : ℕ) (E F : EdgeSet) : Type 0 where
  pub same : (ring subject : ℕ) → ring < k → subject < n → E ring subject ≡ F ring subject

-- the observers on the first k rings are processes
pub record HasObservers (r : Layout) (k : ℕ) : Type 0 where
  pub in_range : (ring subject : ℕ) → ring < k → subject < r.nodes → observer_of r ring subject < r.nodes

pub reports_of-same : (rule : Rule) (n : ℕ) (E F : EdgeSet) → SameEdges rule.k n E F → (s : ℕ) → s < n
    → reports_of rule E s ≡ reports_of rule F s
reports_of-same rule n E F edges s low =
    count_by_agree (λ k. E k s) (λ k. F k s) 0 rule.k (record { same = λ k _ below. edges.same k s (omega arith) low })

pub is_reported-same : (rule : Rule) (n : ℕ) (E F : EdgeSet) → SameEdges rule.k n E F → (s : ℕ) → s < n
    → is_reported rule E s ≡ is_reported rule F s
unfolding is_reported
is_reported-same rule n E F edges s low = ap (nat_le rule.l) (reports_of-same rule n E F edges s low)

pub is_full-same : (r : Layout) (rule : Rule) (E F : EdgeSet) → HasObservers r rule.k → SameEdges rule.k r.nodes E F
    → (k s : ℕ) → k < rule.k → s < r.nodes → is_full r rule E k s ≡ is_full r rule F k s
unfolding is_full
is_full-same r rule E F observers edges k s ring process =
    grind (arith, is_reported-same)

pub full_count-same : (r : Layout) (rule : Rule) (E F : EdgeSet) → HasObservers r rule.k → SameEdges rule.k r.nodes E F
    → (s : ℕ) → s < r.nodes → full_count r rule E s ≡ full_count r rule F s
full_count-same r rule E F observers edges s process =
    grind (arith, count_by_agree, is_full-same)

is_stable-same : (r : Layout) (rule : Rule) (E F : EdgeSet) → HasObservers r rule.k → SameEdges rule.k r.nodes E F
    → AgreeOn (λ s. is_stable r rule E s) (λ s. is_stable r rule F s) 0 r.nodes
unfolding is_stable
is_stable-same r rule E F observers edges = record
    { same = λ s _ below. ap (nat_le rule.h) (full_count-same r rule E F observers edges s (omega arith)) }

is_unstable-same : (r : Layout) (rule : Rule) (E F : EdgeSet) → HasObservers r rule.k → SameEdges rule.k r.nodes E F
    → AgreeOn (λ s. is_unstable r rule E s) (λ s. is_unstable r rule F s) 0 r.nodes
unfolding is_unstable
is_unstable-same r rule E F observers edges = record {
  same = λ s _ below. ap (λ n. nat_le rule.l n && nat_lt n rule.h)
      (full_count-same r rule E F observers edges s (omega arith));
}

is_settled-same : (r : Layout) (rule : Rule) (E F : EdgeSet) → HasObservers r rule.k → SameEdges rule.k r.nodes E F
    → is_settled r rule E ≡ is_settled r rule F
unfolding is_settled is_some_stable is_some_unstable
is_settled-same r rule E F observers edges =
    search (arith, some_and_none_agree, is_stable-same, is_unstable-same)

pub settled_proposal-same : (r : Layout) (rule : Rule) (E F : EdgeSet) (n : ℕ) → HasObservers r rule.k
    → SameEdges rule.k r.nodes E F → settled_proposal r rule E n ≡ settled_proposal r rule F n
unfolding stable_members
settled_proposal-same r rule E F n observers edges =
    grind (arith, is_settled-same, filter_agree_on, is_stable-same)
