-- A detector as contracts see it.
use Rattle.std.specs.Prelude.{◌≡◌, ℕ, ◌+◌, ◌<◌, ◌||◌, Bool, List, length, replicate, Option, None, IsNone, IfSome}
use Rattle.cut_rings.specs.declared.edge.Edge.{Edge}
use Rattle.cut_rings.specs.Layout.{Layout}
use Rattle.cut_rings.specs.Edges.{first_of, set_of, is_edge}
use Rattle.cut_detector.specs.Rule.{Rule}
use Rattle.cut_detector.specs.Masks.{edges_in}
use Rattle.cut_detector.specs.Proposal.{proposal_of, settled_proposal}
use Rattle.cut_detector.specs.declared.proposal.Proposal.{Proposal}

-- its rings and rule, the set of delivered edges as the masks of the processes, the number of
-- deliveries, and the proposal
pub record DetectorState : Type 0 where
  pub layout : Layout
  pub rule : Rule
  pub edges : List ℕ
  pub deliveries : ℕ
  pub proposal : Option Proposal

-- whether the edge of a ring and a subject has been delivered
abbrev pub has_edge : DetectorState → ℕ → ℕ → Bool
has_edge d ring subject = edges_in d.edges ring subject

-- a detector to which nothing has been delivered
abbrev pub fresh : Layout → Rule → DetectorState
fresh r rule = record {
  layout = r;
  rule = rule;
  edges = replicate r.nodes 0;
  deliveries = 0;
  proposal = None;
}

-- a detector without a proposal takes an edge: it counts the delivery, and proposes if the edges that it then has are
-- settled
pub record TakesEdge (old new : DetectorState) (edge : Edge) : Type 0 where
  pub deliveries : new.deliveries ≡ old.deliveries + 1
  pub edges : (ring subject : ℕ) → ring < old.rule.k → subject < old.layout.nodes → has_edge new ring subject
      ≡ (has_edge old ring subject || is_edge ring subject edge)
  pub proposal : new.proposal ≡ settled_proposal old.layout old.rule (has_edge new) new.deliveries

-- it has counted the first n of these deliveries, and holds the edges of these alone
pub record HoldsFirst (d : DetectorState) (delivered : List Edge) (n : ℕ) : Type 0 where
  pub deliveries : d.deliveries ≡ n
  pub edges : (ring subject : ℕ) → ring < d.rule.k → subject < d.layout.nodes → has_edge d ring subject
      ≡ first_of delivered n ring subject

-- these edges have been delivered, in this order, since the detector was made or reset
pub record HasDelivered (d : DetectorState) (delivered : List Edge) : Type 0 where
  -- its proposal is that of the deliveries
  pub proposal : d.proposal ≡ proposal_of d.layout d.rule (first_of delivered) (length delivered)
  -- while there is none, it has counted the deliveries, and holds their edges
  pub deliveries : IsNone d.proposal → d.deliveries ≡ length delivered
  pub edges : IsNone d.proposal → (ring subject : ℕ) → ring < d.rule.k → subject < d.layout.nodes
      → has_edge d ring subject ≡ set_of delivered ring subject
  -- once there is one, it has counted those up to the proposal's place, and holds their edges
  pub settled : IfSome d.proposal (λ p. HoldsFirst d delivered p.at)
