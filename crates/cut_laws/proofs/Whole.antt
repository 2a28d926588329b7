-- What all alerts together say of each proposal: stable processes stay so, so who isn't stable in the end is proposed
-- by nobody; and where the end is settled, everybody proposes.
use Rattle.std.proofs.Common.{◌≡◌, ℕ, ◌<◌, ◌≤◌, true, false, not, List, [], ◌∷◌, Option, Some, None, length, refl}
use Rattle.std.proofs.Common.{sym, ap, ◌∙◌, arith, get_or, nat_lt, inl, inr, subst}
use Rattle.cut_laws.proofs.Words.{AllAreHeardOfInTheEnd, Assignment, Contains, DeliveriesAreCopiesOfEdges}
use Rattle.cut_laws.proofs.Words.{DeliveriesAreOfGivenEdges, Edge, EdgeSet, IfSome, IsAllConflicts, IsOfLeastPlace}
use Rattle.cut_laws.proofs.Words.{IsSettled, IsTrue, MatchOption, MoreEdgesKeepStable, NoneIsStableUnheard, Proposal}
use Rattle.cut_laws.proofs.Words.{ProposesAtLeastPlace, ReceiversAreTheRest, Source, Values, alerts_at}
use Rattle.cut_laws.proofs.Words.{all_deliveries, cell_at, delivery_rank, early, ends_stable, is_edge, is_target}
use Rattle.cut_laws.proofs.Words.{judged, lacks_target, outcome, proposed_at, receivers_of, rings_of, roles_at}
use Rattle.cut_laws.proofs.Words.{rule_at, set_of, source_of, ◌&&◌}
use Rattle.std.proofs.lemmas.Bool.{and_parts, cases_lt, eqb-true}
use Rattle.std.proofs.lemmas.List.Elements.{Contains-get_or}
use Rattle.std.proofs.lemmas.List.Folds.{Any-from_list_any, list_any_none}
use Rattle.std.proofs.lemmas.Nat.{mul-le}
use Rattle.cut_lists.proofs.Ranks.{count_by_all}
use Rattle.cut_laws.proofs.Counting.{none_counted}
use Rattle.cut_laws.proofs.Plans.{IsCell}
use Rattle.cut_laws.proofs.Verdicts.{all_conflicts, counted, lacks_one, many, roles_length, target_below}

-- what a receiver has heard of is alerted
pub heard_is_given : DeliveriesAreOfGivenEdges → (d : Source) (j k : ℕ) (edges : List Edge) (copies n ring s : ℕ)
    → early d j k edges copies n ring s ≡ true → set_of edges ring s ≡ true
heard_is_given given d j k edges copies n ring s heard =
    let at = Any-from_list_any
    (λ x. is_edge ring s x.edge && nat_lt (delivery_rank d j k edges copies x) n) (all_deliveries edges copies) heard in
    let of_edge = and_parts (is_edge ring s at.1.edge) _ at.4 in
    let same = and_parts _ _ of_edge.0 in
    ap (λ i. set_of edges i s) (sym (eqb-true at.1.edge.ring ring same.0))
    ∙ ap (λ q. set_of edges at.1.edge.ring q) (sym (eqb-true at.1.edge.subject s same.1))
    ∙ ((given edges copies at.1).0 (at.0, at.2, at.3)).1

-- who proposes names some process
pub some_member : ProposesAtLeastPlace → (v : Values) (t j : ℕ)
    → IfSome (proposed_at v t j) (λ p. (s : ℕ) × Contains p.members s)
some_member proposes v t j =
    grind arith

module _ (given : DeliveriesAreOfGivenEdges) (more : MoreEdgesKeepStable) (proposes : ProposesAtLeastPlace)
    (v : Values) (t : ℕ) where
  abbrev a : Assignment
  a = roles_at v t

  abbrev heard : ℕ → ℕ → EdgeSet
  heard j n = early (source_of v.seed t) j (cell_at v t).k (alerts_at v t) v.copies n

  abbrev count : ℕ
  count = length (all_deliveries (alerts_at v t) v.copies)

  abbrev AtLeast : ℕ → Option Proposal → Type 0
  AtLeast j o = MatchOption o ((n : ℕ) → 1 ≤ n → n ≤ count → IsSettled (rings_of v) (rule_at v t) (heard j n) → ⊥)
      (IsOfLeastPlace (rings_of v) (rule_at v t) (heard j) count)

  abbrev OnlyStable : Option Proposal → Type 0
  OnlyStable o = IfSome o (λ p. (s : ℕ) → Contains p.members s → (s < v.nodes) × IsTrue (ends_stable v t s))

  -- each receiver proposes only processes that are stable in the end
  pub only_stable : (j : ℕ) → OnlyStable (proposed_at v t j)
  only_stable j = elim (proposed_at v t j) as (λ o. AtLeast j o → OnlyStable o) [
    | None ↦ λ none. tt
    | Some p ↦ λ is s at.
        let found = (is.members s).0 at in (
          found.0,
          more (rings_of v) (rule_at v t) (heard j p.at) (set_of (alerts_at v t)) s
              (λ ring q. heard_is_given given (source_of v.seed t) j (cell_at v t).k (alerts_at v t) v.copies
              p.at ring q)
              found.1,
        )
  ] (proposes (rings_of v) (rule_at v t) (heard j) count)

  -- where a target isn't, each receiver that proposes lacks it
  pub missed : ReceiversAreTheRest → (s : ℕ) → IsTrue (is_target a s) → (IsTrue (ends_stable v t s) → ⊥)
      → IsAllConflicts (outcome v t)
  missed rest s target unstable =
      all_conflicts rest v t (omega (arith, target_below a s target, roles_length v t)) (λ j.
      elim (proposed_at v t j) as (λ o. OnlyStable o → IfSome o (λ p. lacks_target a p.members ≡ true)) [
        | None ↦ λ only. tt
        | Some p ↦ λ only. lacks_one a p.members s target (λ at. unstable (only s at).1)
      ] (only_stable j))

  -- where only targets are, none proposes another
  pub no_extra : ReceiversAreTheRest
      → ((s : ℕ) → s < v.nodes → IsTrue (ends_stable v t s) → IsTrue (is_target a s)) → (outcome v t).extra ≡ 0
  unfolding outcome
  no_extra rest targets =
      counted rest v t (λ o. (judged a o).extra) ∙ none_counted _ (receivers_of a) (λ j.
      elim (proposed_at v t j) as (λ o. OnlyStable o → (judged a o).extra ≡ false) [
        | None ↦ λ only. refl
        | Some p ↦ λ only. list_any_none (λ m. not (is_target a m)) p.members (λ i x within.
            (let is = only (get_or p.members i x) (Contains-get_or p.members i x within) in
            ap not (targets (get_or p.members i x) is.0 is.1)))
      ] (only_stable j))

  -- where no process is, every receiver is silent
  pub all_silent : ReceiversAreTheRest → ((s : ℕ) → s < v.nodes → IsTrue (ends_stable v t s) → ⊥)
      → (outcome v t).silent ≡ (outcome v t).receivers
  unfolding outcome
  all_silent rest none =
      counted rest v t (λ o. (judged a o).silent)
      ∙ count_by_all (λ j. (judged a (proposed_at v t j)).silent) (receivers_of a) (λ i x _. each _)
      ∙ many rest v t
    where
      each : (j : ℕ) → (judged a (proposed_at v t j)).silent ≡ true
      each j = elim (proposed_at v t j) as (λ o. AtLeast j o → OnlyStable o → (judged a o).silent ≡ true) [
        | None ↦ λ is only. refl
        | Some p ↦ λ is only.
            let some = is.settled.some_stable in
            let end = only some.0 ((is.members some.0).1 (some.1, some.2)) in
            absurd (none some.0 end.0 end.1)
      ] (proposes (rings_of v) (rule_at v t) (heard j) count) (only_stable j)

-- ---- where the end is settled

-- where no edge is given, none is heard of
no_edges : (edges : List Edge) (ring s : ℕ) → length edges ≡ 0 → IsTrue (set_of edges ring s) → ⊥
no_edges [] ring s none is = absurd (let never : false ≡ true = is in cc)
no_edges (e ∷ edges) ring s none is = absurd (omega (arith, none))

module _ (copied : DeliveriesAreCopiesOfEdges) (all_heard : AllAreHeardOfInTheEnd) (unheard : NoneIsStableUnheard)
    (proposes : ProposesAtLeastPlace) (v : Values) (t : ℕ) (some : 1 ≤ v.copies) (cell : IsCell v (cell_at v t)) where
  abbrev end : ℕ
  end = length (all_deliveries (alerts_at v t) v.copies)

  abbrev by_end : ℕ → EdgeSet
  by_end j = early (source_of v.seed t) j (cell_at v t).k (alerts_at v t) v.copies end

  abbrev AtEnd : ℕ → Option Proposal → Type 0
  AtEnd j o = MatchOption o
      ((n : ℕ) → 1 ≤ n → n ≤ end → IsSettled (rings_of v) (rule_at v t)
      (early (source_of v.seed t) j (cell_at v t).k (alerts_at v t) v.copies n) → ⊥)
      (IsOfLeastPlace (rings_of v) (rule_at v t)
      (λ n. early (source_of v.seed t) j (cell_at v t).k (alerts_at v t) v.copies n) end)

  -- at its end a receiver has heard of all alerts
  ends : (j : ℕ) → by_end j ≡ set_of (alerts_at v t)
  ends j = λ i ring s.
      (ap (λ n. early (source_of v.seed t) j (cell_at v t).k (alerts_at v t) v.copies n ring s)
      (copied (alerts_at v t) v.copies)
      ∙ all_heard (source_of v.seed t) j (cell_at v t).k (alerts_at v t) v.copies ring s some) i

  -- who is stable then has been heard of
  some_delivery : (s : ℕ) → IsTrue (ends_stable v t s) → 1 ≤ end
  some_delivery s stable = elim (cases_lt 0 (length (alerts_at v t))) [
    | inl edges ↦ omega (
      arith,
      copied (alerts_at v t) v.copies,
      mul-le 1 1 v.copies (length (alerts_at v t)) some edges,
    )
    | inr none ↦ absurd (unheard (rings_of v) (rule_at v t) (set_of (alerts_at v t)) s cell.low cell.gap
        (λ ring below is. no_edges (alerts_at v t) ring s (omega (arith, none)) is) stable)
  ]

  pub none_silent : ReceiversAreTheRest → IsSettled (rings_of v) (rule_at v t) (set_of (alerts_at v t))
      → (outcome v t).silent ≡ 0
  unfolding outcome
  none_silent rest settled =
      counted rest v t (λ o. (judged (roles_at v t) o).silent)
      ∙ none_counted _ (receivers_of (roles_at v t)) each
    where
      each : (j : ℕ) → (judged (roles_at v t) (proposed_at v t j)).silent ≡ false
      each j = elim (proposed_at v t j) as (λ o. AtEnd j o → (judged (roles_at v t) o).silent ≡ false) [
        | None ↦ λ none. absurd (none end (some_delivery settled.some_stable.0 settled.some_stable.2) (omega arith)
            (subst (λ E. IsSettled (rings_of v) (rule_at v t) E) (sym (ends j)) settled))
        | Some p ↦ λ is. refl
      ] (proposes (rings_of v) (rule_at v t)
          (λ n. early (source_of v.seed t) j (cell_at v t).k (alerts_at v t) v.copies n) end)
