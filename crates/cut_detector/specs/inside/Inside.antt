-- How a `Detector` is kept: the reported edges with the rings that count, and the members of its
-- proposal.
use Rattle.std.specs.Prelude.{◌≡◌, ◌≤◌, vec_capacity, IsTrue}
use Rattle.cut_detector.specs.declared.detector.Detector.TheInside.{Inside}
use Rattle.cut_rings.specs.Layout.{Layout}
use Rattle.cut_rings.specs.Edges.{EdgeSet}
use Rattle.cut_detector.specs.Rule.{Rule, rule_in}
use Rattle.cut_detector.specs.Counts.{is_settled, stable_members}
use Rattle.cut_detector.specs.Proposal.{settled_proposal}
use Rattle.cut_detector.specs.Masks.{edges_in}
use Rattle.cut_detector.specs.State.{DetectorState}

abbrev pub layout_of : Inside → Layout
layout_of d = d.reports.rings.now

abbrev pub rule_of_inside : Inside → Rule
rule_of_inside d = rule_in d.reports.tally.rule

abbrev pub reported_of : Inside → EdgeSet
reported_of d = edges_in d.reports.reported.masks.items

abbrev pub state_of : Inside → DetectorState
state_of d = record {
  layout = layout_of d;
  rule = rule_of_inside d;
  edges = d.reports.reported.masks.items;
  deliveries = d.deliveries;
  proposal = settled_proposal (layout_of d) (rule_of_inside d) (reported_of d) d.deliveries;
}

pub record IsDetector (d : Inside) : Type 0 where
  -- where it proposes, these are the members
  pub members : IsTrue (is_settled (layout_of d) (rule_of_inside d) (reported_of d)) → d.members.items
      ≡ stable_members (layout_of d) (rule_of_inside d) (reported_of d)
  pub room : (layout_of d).nodes ≤ vec_capacity d.members
