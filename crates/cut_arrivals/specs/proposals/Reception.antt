-- What a receiver gets in a trial, and when: by the images of the keys of its deliveries.
use Rattle.std.specs.Prelude.{ℕ, ◌≤◌, List, map, filter, length, Option}
use Rattle.cut_rings.specs.declared.edge.Edge.{Edge}
use Rattle.cut_rings.specs.Layout.{Layout, IsLayout}
use Rattle.cut_rings.specs.Edges.{is_edge}
use Rattle.cut_draws.specs.declared.delivery.Delivery.{Delivery}
use Rattle.cut_draws.specs.Source.{Source}
use Rattle.cut_draws.specs.DeliveryOrder.{all_deliveries, delivery_place, early}
use Rattle.cut_detector.specs.Rule.{Rule}
use Rattle.cut_detector.specs.Proposal.{proposal_of}
use Rattle.cut_detector.specs.declared.proposal.Proposal.{Proposal}
use Rattle.cut_arrivals.specs.ranks.Ranks.{rank_at}
use Rattle.cut_arrivals.specs.blocks.Images.{image_at}
use Rattle.cut_arrivals.specs.proposals.Times.{EdgeTimes, IsRule, low_of, high_of}

-- a receiver of a trial, which draws its keys from `source`: the rings and the rule by which it detects, the edges that
-- are alerted, and how many copies of each are delivered
pub record Reception : Type 0 where
  pub source : Source
  pub receiver : ℕ
  pub layout : Layout
  pub rule : Rule
  pub edges : List Edge
  pub copies : ℕ

-- over rings as they always are, with a rule as detectors have it
pub record IsReception (x : Reception) : Type 0 where
  pub layout : IsLayout x.layout
  pub rings : x.rule.k ≤ length x.layout.positions
  pub rule : IsRule x.rule

-- what is delivered to it
abbrev pub deliveries_of : Reception → List Delivery
deliveries_of x = all_deliveries x.edges x.copies

-- what it proposes
abbrev pub proposal_at : Reception → Option Proposal
proposal_at x =
    proposal_of x.layout x.rule (λ n. early x.source x.receiver x.rule.k x.edges x.copies n) (length (deliveries_of x))

-- the image of the key of a delivery to it
abbrev pub image_of : Reception → Delivery → ℕ
image_of x delivery = image_at x.source (delivery_place x.receiver x.rule.k delivery)

-- the first time of a delivery of each edge, by what the time of each delivery is; `end` if there is none
abbrev pub first_times : ℕ → (Delivery → ℕ) → List Delivery → EdgeTimes
first_times end time deliveries ring s =
    rank_at end 1 (map time (filter (λ x. is_edge ring s x.edge) deliveries))

-- the least image of each edge, `last` if it isn't alerted, and the lows and highs by these
abbrev pub images_at : Reception → ℕ → EdgeTimes
images_at x last = first_times last (image_of x) (deliveries_of x)

abbrev pub lows_at : Reception → ℕ → ℕ → ℕ
lows_at x last = low_of last x.rule (images_at x last)

abbrev pub highs_at : Reception → ℕ → ℕ → ℕ
highs_at x last = high_of last x.layout x.rule (images_at x last)
