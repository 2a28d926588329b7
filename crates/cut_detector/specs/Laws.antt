-- Laws of cut detection, in the words of the Rapid paper's section on multi-process cut detection.
use Rattle.std.specs.Prelude.{◌≡◌, ℕ, ◌<◌, ◌≤◌, ◌↔◌, ◌⊎◌, ◌&&◌, ⊤, Bool, true, false, not, List, ◌∷◌, ◌++◌, length}
use Rattle.std.specs.Prelude.{Option, option_map, MatchOption, if◌then◌else◌, nat_le, suc, IsTrue, Contains}
use Rattle.std.specs.List.Sorted.{IsStrictlyIncreasing}
use Rattle.cut_rings.specs.declared.edge.Edge.{Edge}
use Rattle.cut_rings.specs.Layout.{Layout}
use Rattle.cut_rings.specs.Edges.{EdgeSet, first_of}
use Rattle.cut_detector.specs.Rule.{Rule, rule_of}
use Rattle.cut_detector.specs.Counts.{reports_of, is_reported, is_stable, is_unstable}
use Rattle.cut_detector.specs.Proposal.{proposal_of}
use Rattle.cut_detector.specs.declared.proposal.Proposal.{Proposal}

-- some process is stable and none is unstable
pub record IsSettled (r : Layout) (rule : Rule) (E : EdgeSet) : Type 0 where
  pub some_stable : (s : ℕ) × (s < r.nodes) × IsTrue (is_stable r rule E s)
  pub none_unstable : (s : ℕ) → s < r.nodes → ¬ IsTrue (is_unstable r rule E s)

-- a proposal that is made at the least of `count` places at which some process is stable and none is
-- unstable, and whose members are exactly the stable processes there
pub record IsOfLeastPlace (r : Layout) (rule : Rule) (E : ℕ → EdgeSet) (count : ℕ) (p : Proposal) : Type 0 where
  pub from_first : 1 ≤ p.at
  pub to_last : p.at ≤ count
  pub settled : IsSettled r rule (E p.at)
  pub least : (n : ℕ) → 1 ≤ n → n < p.at → ¬ IsSettled r rule (E n)
  pub members : (s : ℕ) → Contains p.members s ↔ ((s < r.nodes) × IsTrue (is_stable r rule (E p.at) s))
  pub ascending : IsStrictlyIncreasing p.members

-- a process proposes at the least such place, and only if there is none it does not
abbrev pub ProposesAtLeastPlace : Type 0
ProposesAtLeastPlace =
    (r : Layout) (rule : Rule) (E : ℕ → EdgeSet) (count : ℕ) →
    MatchOption (proposal_of r rule E count)
    ((n : ℕ) → 1 ≤ n → n ≤ count → ¬ IsSettled r rule (E n))
    (IsOfLeastPlace r rule E count)

-- the proposal after a list of deliveries, if there is one
abbrev pub proposal_after : Layout → Rule → List Edge → Option Proposal
proposal_after r rule edges = proposal_of r rule (first_of edges) (length edges)

-- its members
abbrev pub members_after : Layout → Rule → List Edge → Option (List ℕ)
members_after r rule edges = option_map (λ p. p.members) (proposal_after r rule edges)

-- an edge that is delivered once more, at any later place, changes no members
abbrev pub RepeatsChangeNoMembers : Type 0
RepeatsChangeNoMembers =
    (r : Layout) (rule : Rule) (before after : List Edge) (edge : Edge) → Contains before edge →
    members_after r rule (before ++ edge ∷ after) ≡ members_after r rule (before ++ after)

-- the proposal with its place one later, if that is after the first n
abbrev pub delayed : ℕ → Proposal → Proposal
delayed n p = record { members = p.members; at = if nat_le p.at n then p.at else suc p.at }

-- and it is counted itself, but changes no place else: what is proposed after it is proposed one later
abbrev pub RepeatsDelayByOne : Type 0
RepeatsDelayByOne =
    (r : Layout) (rule : Rule) (before after : List Edge) (edge : Edge) → Contains before edge →
    proposal_after r rule (before ++ edge ∷ after)
    ≡ option_map (delayed (length before)) (proposal_after r rule (before ++ after))

-- with L = H a process is stable exactly where at least H distinct rings report it
abbrev pub StableByReportsAlone : Type 0
StableByReportsAlone =
    (r : Layout) (rule : Rule) (E : EdgeSet) (s : ℕ) → rule.l ≡ rule.h →
    IsTrue (is_stable r rule E s) ↔ (rule.h ≤ reports_of rule E s)

-- with L = H no process is unstable
abbrev pub NoneIsUnstable : Type 0
NoneIsUnstable =
    (r : Layout) (rule : Rule) (E : EdgeSet) (s : ℕ) → rule.l ≡ rule.h → ¬ IsTrue (is_unstable r rule E s)

-- with L = H implicit alerts change no proposal
abbrev pub ImplicitAlertsChangeNothing : Type 0
ImplicitAlertsChangeNothing =
    (r : Layout) (k h : ℕ) (E : ℕ → EdgeSet) (count : ℕ) →
    proposal_of r (rule_of k h h true) E count ≡ proposal_of r (rule_of k h h false) E count

-- with L = H the proposal is made at the first delivery after which some process is stable
abbrev pub ProposesAtFirstStable : Type 0
ProposesAtFirstStable =
    (r : Layout) (rule : Rule) (E : ℕ → EdgeSet) (count : ℕ) → rule.l ≡ rule.h →
    MatchOption (proposal_of r rule E count)
    ((n s : ℕ) → 1 ≤ n → n ≤ count → s < r.nodes → ¬ IsTrue (is_stable r rule (E n) s))
    (λ p. (n s : ℕ) → 1 ≤ n → n < p.at → s < r.nodes → ¬ IsTrue (is_stable r rule (E n) s))

-- each edge of the set is one to a target, and each target is reported on at least H rings
pub record ReportsTargetsAlone (r : Layout) (rule : Rule) (E : EdgeSet) (is_target : ℕ → Bool) : Type 0 where
  pub alone : (ring subject : ℕ) → ring < rule.k → subject < r.nodes → IsTrue (E ring subject)
      → IsTrue (is_target subject)
  pub each : (subject : ℕ) → subject < r.nodes → IsTrue (is_target subject) → rule.h ≤ reports_of rule E subject

-- then the stable processes are exactly the targets
abbrev pub StableAreTargets : Type 0
StableAreTargets =
    (r : Layout) (rule : Rule) (E : EdgeSet) (is_target : ℕ → Bool) → 1 ≤ rule.l → rule.l ≤ rule.h →
    ReportsTargetsAlone r rule E is_target →
    (s : ℕ) → s < r.nodes → is_stable r rule E s ≡ is_target s

-- and no process is unstable
abbrev pub TargetsAloneLeaveNoneUnstable : Type 0
TargetsAloneLeaveNoneUnstable =
    (r : Layout) (rule : Rule) (E : EdgeSet) (is_target : ℕ → Bool) → 1 ≤ rule.l → rule.l ≤ rule.h →
    ReportsTargetsAlone r rule E is_target →
    (s : ℕ) → s < r.nodes → ¬ IsTrue (is_unstable r rule E s)

-- sets of edges, each of which contains the earlier ones
abbrev pub Grows : (ℕ → EdgeSet) → Type 0
Grows E = (m n ring s : ℕ) → m ≤ n → IsTrue (E m ring s) → IsTrue (E n ring s)

-- if q proposes, p does, at the same place or earlier, and only members of q
abbrev pub ProposesBefore : Option Proposal → Option Proposal → Type 0
ProposesBefore p q =
    MatchOption q ⊤ (λ later. MatchOption p ⊥ (λ sooner. (sooner.at ≤ later.at)
    × ((s : ℕ) → Contains sooner.members s → Contains later.members s)))

-- a receiver that proposes with a higher H also proposes with a lower one, no later, and no other members
abbrev pub AWiderGapProposesLater : Type 0
AWiderGapProposesLater =
    (r : Layout) (k g h l : ℕ) (implicit : Bool) (E : ℕ → EdgeSet) (count : ℕ) → l ≤ h → h ≤ g → Grows E →
    ProposesBefore (proposal_of r (rule_of k h l implicit) E count) (proposal_of r (rule_of k g l implicit) E count)

-- without implicit alerts the same holds for a lower L: the gap is wider at both ends
abbrev pub AGapWiderAtBothEndsProposesLater : Type 0
AGapWiderAtBothEndsProposesLater =
    (r : Layout) (k g h l m : ℕ) (E : ℕ → EdgeSet) (count : ℕ) → m ≤ l → l ≤ h → h ≤ g → Grows E →
    ProposesBefore (proposal_of r (rule_of k h l false) E count) (proposal_of r (rule_of k g m false) E count)

-- the first entries of a list of edges are such sets, so that both laws hold for lists
abbrev pub FirstEdgesGrow : Type 0
FirstEdgesGrow = (edges : List Edge) → Grows (first_of edges)

-- stable or unstable
abbrev pub IsMarked : Layout → Rule → EdgeSet → ℕ → Type 0
IsMarked r rule E s = IsTrue (is_stable r rule E s) ⊎ IsTrue (is_unstable r rule E s)

-- what is stable without implicit alerts is stable with them
abbrev pub ImplicitAlertsKeepStable : Type 0
ImplicitAlertsKeepStable =
    (r : Layout) (k h l : ℕ) (E : EdgeSet) (s : ℕ) →
    IsTrue (is_stable r (rule_of k h l false) E s) → IsTrue (is_stable r (rule_of k h l true) E s)

-- what is stable or unstable without implicit alerts is so with them
abbrev pub ImplicitAlertsKeepMarked : Type 0
ImplicitAlertsKeepMarked =
    (r : Layout) (k h l : ℕ) (E : EdgeSet) (s : ℕ) → l ≤ h →
    IsMarked r (rule_of k h l false) E s → IsMarked r (rule_of k h l true) E s

-- each edge of a set is one of another
abbrev pub IsPartOf : EdgeSet → EdgeSet → Type 0
IsPartOf E F = (ring s : ℕ) → IsTrue (E ring s) → IsTrue (F ring s)

-- with more edges each reported process stays reported
abbrev pub MoreEdgesKeepReported : Type 0
MoreEdgesKeepReported =
    (rule : Rule) (E F : EdgeSet) (s : ℕ) → IsPartOf E F → IsTrue (is_reported rule E s) → IsTrue (is_reported rule F s)

-- and each stable process stays stable
abbrev pub MoreEdgesKeepStable : Type 0
MoreEdgesKeepStable =
    (r : Layout) (rule : Rule) (E F : EdgeSet) (s : ℕ) → IsPartOf E F →
    IsTrue (is_stable r rule E s) → IsTrue (is_stable r rule F s)

-- the unstable processes are those which are reported on at least L rings and aren't stable
abbrev pub UnstableAreReportedAndNotStable : Type 0
UnstableAreReportedAndNotStable =
    (r : Layout) (rule : Rule) (E : EdgeSet) (s : ℕ) →
    is_unstable r rule E s ≡ (is_reported rule E s && not (is_stable r rule E s))

-- no edge of the first rings is to this process
abbrev pub IsUnheardOf : Rule → EdgeSet → ℕ → Type 0
IsUnheardOf rule E s = (ring : ℕ) → ring < rule.k → ¬ IsTrue (E ring s)

-- then it isn't reported
abbrev pub NoneIsReportedUnheard : Type 0
NoneIsReportedUnheard =
    (rule : Rule) (E : EdgeSet) (s : ℕ) → 1 ≤ rule.l → IsUnheardOf rule E s → ¬ IsTrue (is_reported rule E s)

-- nor stable
abbrev pub NoneIsStableUnheard : Type 0
NoneIsStableUnheard =
    (r : Layout) (rule : Rule) (E : EdgeSet) (s : ℕ) → 1 ≤ rule.l → rule.l ≤ rule.h → IsUnheardOf rule E s →
    ¬ IsTrue (is_stable r rule E s)
