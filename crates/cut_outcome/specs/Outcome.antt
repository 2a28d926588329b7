-- What a trial gives: what its receivers propose, what they are judged to be, and its eight numbers.
use Rattle.std.specs.Prelude.{◌≡◌, ℕ, ◌-◌, ◌/◌, ⊤, Bool, List, map, length}
use Rattle.std.specs.Prelude.{count_by, nat_le, slice_index_or, if◌then◌else◌, Option, Some, None}
use Rattle.std.specs.List.{sum_by}
use Rattle.cut_plan.specs.declared.cell.Cell.{Cell}
use Rattle.cut_fields.specs.declared.version.Version.{Version}
use Rattle.cut_fields.specs.declared.version.Version.TheVariants.{One, Two}
use Rattle.cut_plan.specs.Values.{Values}
use Rattle.cut_plan.specs.Failing.{version_of}
use Rattle.cut_plan.specs.Cells.{cells_of, largest}
use Rattle.cut_rings.specs.declared.edge.Edge.{Edge}
use Rattle.cut_rings.specs.Layout.{Layout}
use Rattle.cut_rings.specs.Hashed.{hashed_layout}
use Rattle.cut_draws.specs.Source.{Source, source_of}
use Rattle.cut_draws.specs.DeliveryOrder.{all_deliveries, early}
use Rattle.cut_alerts.specs.Assignment.{Assignment}
use Rattle.cut_alerts.specs.Drawn.{drawn}
use Rattle.cut_alerts.specs.Alerted.{alert_list}
use Rattle.cut_detector.specs.Proposal.{proposal_of}
use Rattle.cut_detector.specs.declared.proposal.Proposal.{Proposal}
use Rattle.cut_outcome.specs.declared.totals.Totals.{Totals}
use Rattle.cut_outcome.specs.Verdicts.{receivers_of, targets_of, judged}
use Rattle.cut_outcome.specs.FastRound.{quorum_of, votes_of, most_votes, cast_of}

-- the rings of a plan
abbrev pub rings_of : Values → Layout
rings_of v = hashed_layout v.seed v.nodes (largest v.k)

-- what receiver j proposes, in a cell, by the draws d, if these edges are alerted
abbrev pub receiver_proposal : Values → Cell → Layout → Source → List Edge → ℕ → Option Proposal
receiver_proposal v c r d edges j =
    proposal_of r (record { k = c.k; h = c.h; l = c.l; implicit = v.implicit })
    (λ n. early d j c.k edges v.copies n) (length (all_deliveries edges v.copies))

-- what each receiver proposes, in the order of the receivers
abbrev pub proposals_of : Values → Cell → Layout → Source → Assignment → List (Option Proposal)
proposals_of v c r d a = map (λ j. receiver_proposal v c r d (alert_list r a c.k) j) (receivers_of a)

-- after how many deliveries a receiver proposed, 0 if it did not
abbrev pub place_of : Option Proposal → ℕ
place_of None = 0
place_of (Some p) = p.at

-- the sum of these places, which a plan of version 1 does not have
abbrev pub settled_of : Version → List (Option Proposal) → ℕ
settled_of One proposals = 0
settled_of Two proposals = sum_by place_of proposals

-- a place, as a plan's version asks for it
abbrev pub place_for : Version → ℕ → ℕ
place_for One place = 0
place_for Two place = place

-- a place is that of a proposal, where a plan's version asks for it
abbrev pub IsPlaced : Version → ℕ → Option Proposal → Type 0
IsPlaced One place p = ⊤
IsPlaced Two place p = place_of p ≡ place

-- 1 for a fact that holds, 0 for one that does not
abbrev pub one_if : Bool → ℕ
one_if b = if b then 1 else 0

-- the eight numbers of a trial, from the proposals of its receivers
abbrev pub totals_of : Values → Cell → Assignment → List (Option Proposal) → Totals
totals_of v c a proposals = record {
  receivers = v.nodes - c.f;
  conflicts = count_by (λ p. (judged a p).conflict) proposals;
  silent = count_by (λ p. (judged a p).silent) proposals;
  extra = count_by (λ p. (judged a p).extra) proposals;
  votes = most_votes (cast_of proposals);
  decided = one_if (nat_le (quorum_of v.nodes) (most_votes (cast_of proposals)));
  right = one_if (nat_le (quorum_of v.nodes) (votes_of (cast_of proposals) (targets_of a)));
  settled = settled_of (version_of v.failing) proposals;
}

-- the eight numbers of a trial of a cell, by the draws d and the rings r
abbrev pub cell_outcome : Values → Cell → Layout → Source → Totals
cell_outcome v c r d = totals_of v c (drawn v c.f d r) (proposals_of v c r d (drawn v c.f d r))

-- a cell of no rings, which stands for a cell that a plan lacks
abbrev pub no_cell : Cell
no_cell = record { k = 0; h = 0; l = 0; f = 0 }

-- the cell of trial t
abbrev pub cell_at : Values → ℕ → Cell
cell_at v t = slice_index_or (cells_of v) (t / v.repeats) no_cell

-- the outcome of trial t of a plan
unfoldable pub outcome : Values → ℕ → Totals
outcome v t = cell_outcome v (cell_at v t) (rings_of v) (source_of v.seed t)

-- how many deliveries each receiver of trial t hears of, if it hears of all
abbrev pub deliveries_at : Values → ℕ → ℕ
deliveries_at v t =
    length (all_deliveries (alert_list (rings_of v)
    (drawn v (cell_at v t).f (source_of v.seed t) (rings_of v)) (cell_at v t).k) v.copies)
