-- What a process proposes (the Rapid paper's section on multi-process cut detection).
use Rattle.std.specs.Prelude.{ℕ, Option, Some, None, option_map, find, if◌then◌else◌}
use Rattle.std.specs.List.{range_with_len}
use Rattle.cut_rings.specs.Layout.{Layout}
use Rattle.cut_rings.specs.Edges.{EdgeSet}
use Rattle.cut_detector.specs.Rule.{Rule}
use Rattle.cut_detector.specs.Counts.{is_settled, stable_members}
use Rattle.cut_detector.specs.declared.proposal.Proposal.{Proposal}

-- the proposal where E n has been delivered after n deliveries, of which there are `count`: the stable
-- processes at the least n from 1 on at which some process is stable and none is unstable
abbrev pub proposal_of : Layout → Rule → (ℕ → EdgeSet) → ℕ → Option Proposal
proposal_of r rule E count =
    option_map (λ n. record { members = stable_members r rule (E n); at = n })
    (find (λ n. is_settled r rule (E n)) (range_with_len 1 count))

-- what is proposed at place n where E has been delivered and there was no proposal before
abbrev pub settled_proposal : Layout → Rule → EdgeSet → ℕ → Option Proposal
settled_proposal r rule E n =
    if is_settled r rule E then Some (record { members = stable_members r rule E; at = n }) else None
