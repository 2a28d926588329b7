-- A conflict is a place, the least or a later one, at which a process is settled without some target.
use Rattle.std.proofs.Common.{◌≡◌, ℕ, ◌<◌, ◌≤◌, Bool, true, false, not, Option, Some, None, arith, inl, inr}
use Rattle.cut_laws.proofs.Words.{Assignment, Contains, EdgeSet, HeardOfStays, IsOfLeastPlace, IsSettled, IsTrue}
use Rattle.cut_laws.proofs.Words.{Layout, MatchOption, MoreEdgesKeepStable, Proposal, ProposesAtLeastPlace, Rule}
use Rattle.cut_laws.proofs.Words.{Values, alerts_at, cell_at, has_process, is_missed, is_target, judged, proposal_of}
use Rattle.cut_laws.proofs.Words.{proposed_at, rings_of, roles_at, rule_at, source_of, ◌&&◌, ◌↔◌}
use Rattle.cut_detector.specs.Laws.{Grows}
use Rattle.cut_outcome.specs.Outcome.{deliveries_at}
use Rattle.cut_laws.specs.Conflicts.{IsSettledWithout, LacksTarget, SettlesWithout, heard_at}
use Rattle.std.proofs.lemmas.Bool.{and_parts, both_ways, cases_lt, not-true}
use Rattle.cut_lists.proofs.Ranges.{passing}
use Rattle.cut_laws.proofs.Verdicts.{has_from, lacks_one, roles_length, target_below}

module _ (more : MoreEdgesKeepStable) (proposes : ProposesAtLeastPlace) where
  module _ (r : Layout) (rule : Rule) (E : ℕ → EdgeSet) (count : ℕ) (target : ℕ → Bool) (grows : Grows E) where
    abbrev AtLeast : Option Proposal → Type 0
    AtLeast o = MatchOption o ((n : ℕ) → 1 ≤ n → n ≤ count → IsSettled r rule (E n) → ⊥)
        (IsOfLeastPlace r rule E count)

    -- at the place of the proposal, of a target that it lacks
    from_lack : (o : Option Proposal) → AtLeast o → LacksTarget r target o → SettlesWithout r rule E count target
    from_lack None none lack = absurd lack
    from_lack (Some p) is (s, process, is_target, lacks) = (
      p.at,
      s,
      record {
        from_first = is.from_first;
        to_last = is.to_last;
        settled = is.settled;
        process = process;
        target = is_target;
        without = λ stable. lacks ((is.members s).1 (process, stable));
      },
    )

    -- a target that isn't stable at a settled place isn't at the least one
    to_lack : (n s : ℕ) → IsSettledWithout r rule E count target n s → (o : Option Proposal) → AtLeast o
        → LacksTarget r target o
    to_lack n s at None none = absurd (none n at.from_first at.to_last at.settled)
    to_lack n s at (Some p) is = (
      s,
      at.process,
      at.target,
      λ member.
          at.without (more r rule (E p.at) (E n) s (λ ring q. grows p.at n ring q no_later) ((is.members s).0 member).1),
    )
      where
        no_later : p.at ≤ n
        no_later = elim (cases_lt n p.at) [
          | inl before ↦ absurd (is.least n at.from_first before at.settled)
          | inr after ↦ omega (arith, after)
        ]

    pub too_soon : LacksTarget r target (proposal_of r rule E count) ↔ SettlesWithout r rule E count target
    too_soon = (
      from_lack (proposal_of r rule E count) (proposes r rule E count),
      λ some. to_lack some.0 some.1 some.2 (proposal_of r rule E count) (proposes r rule E count),
    )

  -- ---- a receiver of a trial

  module _ (stays : HeardOfStays) (v : Values) (t j : ℕ) where
    abbrev a : Assignment
    a = roles_at v t

    abbrev Lacks : Option Proposal → Type 0
    Lacks o = LacksTarget (rings_of v) (λ s. is_target a s) o

    lack_of : (o : Option Proposal) → IsTrue (judged a o).conflict → Lacks o
    lack_of None conflict = absurd (let never : false ≡ true = conflict in cc)
    lack_of (Some p) conflict =
        let found = passing (λ s. is_missed a p.members s) 0 _ conflict in
        let parts = and_parts (is_target a found.0) (not (has_process p.members found.0)) found.1.passes in (
          found.0,
          omega (arith, target_below a found.0 parts.0, roles_length v t),
          parts.0,
          λ member. both_ways _ (not-true _ parts.1) (has_from p.members found.0 member),
        )

    conflict_of : (o : Option Proposal) → Lacks o → IsTrue (judged a o).conflict
    conflict_of None lack = absurd lack
    conflict_of (Some p) (s, process, target, lacks) = lacks_one a p.members s target lacks

    pub receiver_too_soon : IsTrue (judged a (proposed_at v t j)).conflict
        ↔ SettlesWithout (rings_of v) (rule_at v t) (heard_at v t j) (deliveries_at v t) (λ s. is_target a s)
    receiver_too_soon =
        let is = too_soon (rings_of v) (rule_at v t) (heard_at v t j) (deliveries_at v t) (λ s. is_target a s)
        (λ m n ring s. stays (source_of v.seed t) j (cell_at v t).k (alerts_at v t) v.copies m n ring s) in (
          λ conflict. is.0 (lack_of (proposed_at v t j) conflict),
          λ settles. conflict_of (proposed_at v t j) (is.1 settles),
        )
