-- What lanes are found to propose.
use Rattle.std.specs.Prelude.{◌≡◌, ◌≢◌, ℕ, ◌/◌, ◌%◌, ◌^◌, ◌==◌, Bool, true, false, cond, if◌then◌else◌}
use Rattle.std.specs.Prelude.{List, [], ◌∷◌, Option, Some, None, option_map, ⊤}
use Rattle.std.specs.List.{range_with_len, list_any}
use Rattle.cut_arrivals.specs.proposals.Reception.{Reception, proposal_at}
use Rattle.cut_detector.specs.declared.proposal.Proposal.{Proposal}
use Rattle.cut_arrivals.specs.declared.receivers.lane_verdict.LaneVerdict.{LaneVerdict}
use Rattle.cut_arrivals.specs.declared.receivers.lane_verdict.LaneVerdicts as declared

-- of processes those that have a flag, in their order
abbrev pub flagged : List ℕ → List Bool → List ℕ
flagged [] flags = []
flagged (s ∷ rest) [] = []
flagged (s ∷ rest) (flag ∷ flags) = cond flag (s ∷ flagged rest flags) (flagged rest flags)

-- the bit of a lane
abbrev pub has_bit : ℕ → ℕ → Bool
has_bit bits i = bits / 2 ^ i % 2 == 1

-- what is found of lane i
abbrev pub lane_verdict_in : declared.LaneVerdicts → ℕ → LaneVerdict
lane_verdict_in f i =
    if has_bit f.doubtful i then LaneVerdict.Doubtful else if has_bit f.silent i then LaneVerdict.Silent else if has_bit
    f.others i then LaneVerdict.Other else LaneVerdict.Wanted

-- whether a lane verdict is that of a proposal
abbrev pub is_proposal : LaneVerdict → Bool
is_proposal LaneVerdict.Doubtful = false
is_proposal LaneVerdict.Silent = false
is_proposal LaneVerdict.Wanted = true
is_proposal LaneVerdict.Other = true

-- whether some lane is found to propose
abbrev pub has_proposals : declared.LaneVerdicts → Bool
has_proposals f = list_any (λ i. is_proposal (lane_verdict_in f i)) (range_with_len 0 4)

-- the members that a receiver proposes, if it proposes
abbrev pub members_at : Reception → Option (List ℕ)
members_at x = option_map (λ (p : Proposal). p.members) (proposal_at x)

-- what a lane verdict says of the proposed members, compared with expected ones
abbrev pub IsVerdictOn : List ℕ → Option (List ℕ) → LaneVerdict → Type 0
IsVerdictOn wanted proposed LaneVerdict.Doubtful = ⊤
IsVerdictOn wanted proposed LaneVerdict.Silent = proposed ≡ None
IsVerdictOn wanted proposed LaneVerdict.Wanted = proposed ≡ Some wanted
IsVerdictOn wanted proposed LaneVerdict.Other = (members : List ℕ) × (proposed ≡ Some members) × (members ≢ wanted)
