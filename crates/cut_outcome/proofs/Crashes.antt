-- Where nothing fails, no edge is alerted. Where processes fail by crashes alone, only targets are alerted,
-- so only targets are proposed; and where crashed observers speak, every receiver hears of each target on all
-- rings, and proposes.
use Rattle.std.proofs.Common.{◌≡◌, ◌⊎◌, ℕ, ◌<◌, ◌≤◌, true, false, not, List, [], ◌∷◌, Option, Some, None}
use Rattle.std.proofs.Common.{MatchOption, length, get_or, map, nat_lt, nat_le, inl, inr, refl, sym, ap, ◌∙◌, arith}
use Rattle.cut_outcome.proofs.Words.{◌&&◌, count_by, range_with_len, flat_map, Cell, trial_count, IsPlan, Values}
use Rattle.cut_outcome.proofs.Words.{Edge, EdgeSet, Layout, observer_of, Source, source_of, all_deliveries, copies_of}
use Rattle.cut_outcome.proofs.Words.{early, Assignment, role_at, has_crashed, is_target, alerts_about, is_alerted}
use Rattle.cut_outcome.proofs.Words.{alert_list, all_edges, speaks, Rule, rule_of, ring_count, is_reported}
use Rattle.cut_outcome.proofs.Words.{is_full, is_stable, proposal_of, IsSettled, IsOfLeastPlace}
use Rattle.cut_outcome.proofs.Words.{ProposesAtLeastPlace, ReportsTargetsAlone, StableAreTargets}
use Rattle.cut_outcome.proofs.Words.{TargetsAloneLeaveNoneUnstable, Proposal, OnlyCrashes, judged, receivers_of}
use Rattle.cut_outcome.proofs.Words.{processes_of, rings_of, receiver_proposal, cell_at, outcome}
use Rattle.std.proofs.lemmas.Bool.{and_from, and_parts, or_left, or_right, lt-ltb, leb-true, ltb-true}
use Rattle.std.proofs.lemmas.List.Elements.{All-contains, All-map, Contains-get_or}
use Rattle.std.proofs.lemmas.List.Folds.{list_any_none}
use Rattle.std.proofs.lemmas.List.FromFn.{length-range_with_len}
use Rattle.std.proofs.lemmas.List.{length-map}
use Rattle.std.proofs.lemmas.List.Sums.{AllPass-from_list_all, length-filter}
use Rattle.cut_lists.proofs.Counts.{list_any-count_by, filter-none}
use Rattle.cut_lists.proofs.Parts.{count_rest}
use Rattle.cut_lists.proofs.Ranges.{passing, All-range_with_len}
use Rattle.cut_lists.proofs.Ranks.{count_by_all, count_by_none}
use Rattle.cut_plan.specs.declared.dead.Dead.TheVariants.{Speak}
use Rattle.cut_plan.specs.Combinations.{AreCombinations}
use Rattle.cut_alerts.specs.declared.role.Role.TheVariants.{Healthy, Crashed}
use Rattle.cut_outcome.proofs.Heard.{listed_is_raised, raised_is_listed, heard_is_listed, listed_is_heard}
use Rattle.cut_outcome.proofs.Outcomes.{cell_listed, roles_in, edges_in, proposed_in}
use Rattle.cut_outcome.proofs.Roles.{roles_length, receivers_are_the_rest, target_or_healthy}

-- ---- where nothing fails

no_deliveries : (copies : List ℕ) → flat_map (λ c. copies_of [] c) copies ≡ []
no_deliveries [] = refl
no_deliveries (c ∷ copies) = no_deliveries copies

silent_alone : (v : Values) (c : Cell) (r : Layout) (d : Source) (j : ℕ)
    → receiver_proposal v c r d [] j ≡ None
silent_alone v c r d j = rw (no_deliveries (range_with_len 0 v.copies))

pub silent_where_nothing_fails : (v : Values) (t : ℕ) → (cell_at v t).f ≡ 0 → v.liars ≡ 0 → v.links ≡ 0
    → (outcome v t).silent ≡ v.nodes
unfolding outcome
silent_where_nothing_fails v t no_f no_liars no_links =
    let c : Cell = cell_at v t in
    let r : Layout = rings_of v in
    let d : Source = source_of v.seed t in
    let a : Assignment = roles_in v t in
    let role = target_or_healthy v c.f d r no_liars no_links in
    let well : (p : ℕ) → role_at a p ≡ Healthy =
    λ p. elim (role p) [ inl low ↦ absurd (omega (arith, low.0)) | inr well ↦ well ] in
    let edges : edges_in v t ≡ [] = filter-none (λ e. is_alerted r a e) (all_edges c.k r.nodes) (λ i e _.
    (let x : Edge = get_or (all_edges c.k r.nodes) i e in
    rw (well (observer_of r x.ring x.subject), well x.subject))) in
    let silent = All-map (λ o. (judged a o).silent ≡ true) (proposed_in v t) (receivers_of a)
    (λ i x _. rw (edges, silent_alone v c r d (get_or (receivers_of a) i x))) in
    count_by_all (λ o. (judged a o).silent) (map (proposed_in v t) (receivers_of a)) silent
    ∙ length-map (receivers_of a) (proposed_in v t)
    ∙ omega (arith, receivers_are_the_rest v c.f d r)

-- ---- where every process has crashed or is healthy

abbrev CrashedOrHealthy : Assignment → Type 0
CrashedOrHealthy a = (p : ℕ) → (role_at a p ≡ Crashed) ⊎ (role_at a p ≡ Healthy)

crashed_or_healthy : (v : Values) (t : ℕ) → OnlyCrashes v → CrashedOrHealthy (roles_in v t)
crashed_or_healthy v t only p =
    grind (arith, target_or_healthy)

-- alerts are about targets
alerted_is_target : (a : Assignment) → CrashedOrHealthy a → (o s : ℕ) → alerts_about a o s ≡ true
    → is_target a s ≡ true
alerted_is_target a roles o s alerts = grind arith

module _ (a : Assignment) (d : Source) (r : Layout) (j k copies : ℕ) where
  abbrev edges : List Edge
  edges = alert_list r a k

  -- what is heard is about targets
  heard_is_target : CrashedOrHealthy a → (n ring s : ℕ) → early d j k edges copies n ring s ≡ true
      → is_target a s ≡ true
  heard_is_target roles n ring s heard =
      alerted_is_target a roles (observer_of r ring s) s
      (listed_is_raised r a k ring s (heard_is_listed d j k edges copies n ring s heard))

  -- where crashed observers speak, all edges of a target are heard at the end
  target_is_heard : a.dead ≡ Speak → 1 ≤ copies → (ring s : ℕ) → ring < k → s < r.nodes → is_target a s ≡ true
      → (0 < length (all_deliveries edges copies)) ×
      (early d j k edges copies (length (all_deliveries edges copies)) ring s ≡ true)
  target_is_heard speak some ring s below process target =
      let o : ℕ = observer_of r ring s in
      let raises = and_from _ _ target (or_right (not (has_crashed a o)) (speaks a.dead) (ap speaks speak)) in
      let raised = or_left _ _ (or_left _ _ (or_left _ _ raises)) in
      listed_is_heard d j k edges copies ring s some (raised_is_listed r a k ring s below process raised)

-- ---- stable processes have reports

some_ring : (k : ℕ) (E : EdgeSet) (s : ℕ) → 1 ≤ ring_count k E s → (ring : ℕ) × (ring < k) × (E ring s ≡ true)
some_ring k E s some =
    let any = list_any-count_by (λ ring. E ring s) (range_with_len 0 k) ∙ lt-ltb 0 _ (omega arith) in
    grind (arith, passing)

-- a stable process has a reported edge: one that gains a ring is reported itself
stable_is_reported : (r : Layout) (rule : Rule) (E : EdgeSet) (s : ℕ) → 1 ≤ rule.l → rule.l ≤ rule.h
    → is_stable r rule E s ≡ true → (ring : ℕ) × (ring < rule.k) × (E ring s ≡ true)
unfolding is_stable is_full is_reported
stable_is_reported r rule E s low high stable =
    grind (arith, some_ring)

module _ (a : Assignment) (r : Layout) (rule : Rule) (E : ℕ → EdgeSet) (count : ℕ)
    (proposes : ProposesAtLeastPlace) (low : 1 ≤ rule.l) (high : rule.l ≤ rule.h) where
  abbrev AtLeast : Option Proposal → Type 0
  AtLeast q = MatchOption q ((n : ℕ) → 1 ≤ n → n ≤ count → IsSettled r rule (E n) → ⊥)
      (IsOfLeastPlace r rule E count)

  -- where only targets are reported, a proposal has no other process
  no_other : ((n ring s : ℕ) → E n ring s ≡ true → is_target a s ≡ true)
      → (judged a (proposal_of r rule E count)).extra ≡ false
  no_other alone = elim (proposal_of r rule E count) as (λ q. AtLeast q → (judged a q).extra ≡ false) [
    | None ↦ λ none. refl
    | Some p ↦ λ is. list_any_none (λ m. not (is_target a m)) p.members (λ i m within.
        (let s : ℕ = get_or p.members i m in
        let reported = stable_is_reported r rule (E p.at) s low high
        ((is.members s).0 (Contains-get_or p.members i m within)).1 in
        ap not (alone p.at reported.0 s reported.2)))
  ] (proposes r rule E count)

  -- where each target is reported on all rings at the end, there is a proposal
  not_silent : StableAreTargets → TargetsAloneLeaveNoneUnstable → (s : ℕ) → 1 ≤ count
      → ReportsTargetsAlone r rule (E count) (λ p. is_target a p)
      → s < r.nodes → is_target a s ≡ true → (judged a (proposal_of r rule E count)).silent ≡ false
  not_silent stable unstable s some reports process target =
      let stands = stable r rule (E count) (λ p. is_target a p) low high reports s process ∙ target in
      let settled : IsSettled r rule (E count) = record {
        some_stable = (s, process, stands);
        none_unstable = unstable r rule (E count) (λ p. is_target a p) low high reports;
      } in
      elim (proposal_of r rule E count) as (λ q. AtLeast q → (judged a q).silent ≡ false) [
        | None ↦ λ none. absurd (none count some (omega arith) settled)
        | Some p ↦ λ is. refl
      ] (proposes r rule E count)

-- ---- the trial

record HasThresholds (v : Values) (c : Cell) : Type 0 where
  low : 1 ≤ c.l
  high : c.l ≤ c.h
  rings : c.h ≤ c.k
  some_left : c.f < v.nodes

module _ (combinations : (w : Values) → IsPlan w → AreCombinations w) (proposes : ProposesAtLeastPlace)
    (v : Values) (t : ℕ) (plan : IsPlan v) (inside : t < trial_count v) where
  abbrev c : Cell
  c = cell_at v t

  abbrev r : Layout
  r = rings_of v

  abbrev d : Source
  d = source_of v.seed t

  abbrev a : Assignment
  a = roles_in v t

  abbrev rule : Rule
  rule = rule_of c.k c.h c.l v.implicit

  abbrev heard : ℕ → ℕ → EdgeSet
  heard j n = early d j c.k (edges_in v t) v.copies n

  abbrev count : ℕ
  count = length (all_deliveries (edges_in v t) v.copies)

  thresholds : HasThresholds v c
  thresholds =
      let is = ((combinations v plan).listed c).0 (cell_listed v t plan inside) in
      let scale = All-contains (λ x. nat_le 1 x && nat_le x 32 ≡ true) v.l c.l
      (AllPass-from_list_all (λ x. nat_le 1 x && nat_le x 32) v.l plan.ls.range) is.l_listed in
      record {
        low = leb-true 1 c.l (and_parts _ _ scale).0;
        high = is.thresholds;
        rings = is.rings;
        some_left = ltb-true c.f v.nodes
            (All-contains (λ f. nat_lt f v.nodes ≡ true) v.f c.f
            (AllPass-from_list_all (λ f. nat_lt f v.nodes) v.f plan.fs) is.f_listed);
      }

  some_target : 1 ≤ c.f → (s : ℕ) × (s < v.nodes) × (is_target a s ≡ true)
  some_target some =
      let nodes = roles_length v c.f d r in
      let targets : ℕ = count_by (λ p. is_target a p) (processes_of a) in
      let others = sym (length-filter (λ p. not (is_target a p)) (processes_of a))
      ∙ receivers_are_the_rest v c.f d r in
      let rest = count_rest (λ p. is_target a p) (processes_of a) in
      let all = length-range_with_len 0 (length a.roles) in
      let many : 0 < targets = omega (arith, some, thresholds.some_left, nodes, others, rest, all) in
      let any = list_any-count_by (λ p. is_target a p) (processes_of a) ∙ lt-ltb 0 targets many in
      let at = passing (λ p. is_target a p) 0 (length a.roles) any in
      (at.0, omega (arith, at.1.below, nodes), at.1.passes)

  pub none_proposes_others : OnlyCrashes v → (outcome v t).extra ≡ 0
  unfolding outcome
  none_proposes_others only =
      let each = All-map (λ o. (judged a o).extra ≡ false) (proposed_in v t) (receivers_of a) (λ i x _.
      (let j : ℕ = get_or (receivers_of a) i x in
      let alone = heard_is_target a d r j c.k v.copies (crashed_or_healthy v t only) in
      no_other a r rule (heard j) count proposes thresholds.low thresholds.high alone)) in
      count_by_none (λ o. (judged a o).extra) (map (proposed_in v t) (receivers_of a)) each

  pub none_is_silent : StableAreTargets → TargetsAloneLeaveNoneUnstable → OnlyCrashes v → v.dead ≡ Speak
      → 1 ≤ c.f → (outcome v t).silent ≡ 0
  unfolding outcome
  none_is_silent stable unstable only speak some =
      let target = some_target some in
      let each = All-map (λ o. (judged a o).silent ≡ false) (proposed_in v t) (receivers_of a) (λ i x _.
      (let j : ℕ = get_or (receivers_of a) i x in
      let all_heard = target_is_heard a d r j c.k v.copies speak plan.some_copies in
      let first : 0 < c.k = omega (arith, thresholds.low, thresholds.high, thresholds.rings) in
      let reports : ReportsTargetsAlone r rule (heard j count) (λ p. is_target a p) = record {
        alone = λ ring s _ _ e. heard_is_target a d r j c.k v.copies (crashed_or_healthy v t only)
            count ring s e;
        each = λ s process is.
            let all = All-range_with_len (λ ring. heard j count ring s ≡ true) 0 c.k
            (λ ring _ below. (all_heard ring s (omega arith) process is).1) in
            let full = count_by_all (λ ring. heard j count ring s) (range_with_len 0 c.k) all in
            omega (arith, full, length-range_with_len 0 c.k, thresholds.rings);
      } in
      not_silent a r rule (heard j) count proposes thresholds.low thresholds.high stable unstable target.0
      (all_heard 0 target.0 first target.1 target.2).0 reports target.1 target.2)) in
      count_by_none (λ o. (judged a o).silent) (map (proposed_in v t) (receivers_of a)) each
