-- The fast round: equal proposals are counted up to a quorum. (The Rapid paper's section on the
-- leaderless fast path; that the quorum is of all processes, failed ones included, is this project's
-- profile.)
use Rattle.std.specs.Prelude.{◌≡◌, ℕ, ◌-◌, ◌/◌, ◌==◌, Bool, max, fold, List, map, count_by, Option, Some, None}
use Rattle.std.specs.Prelude.{unwrap_or}
use Rattle.std.specs.List.{filter_map}
use Rattle.std.specs.Map.{lookup}
use Rattle.std.specs.Cmp.Lexicographic.{pointwise}
use Rattle.cut_detector.specs.declared.proposal.Proposal.{Proposal}

-- the quorum of n processes
abbrev pub quorum_of : ℕ → ℕ
quorum_of n = n - (n - 1) / 4

-- whether two lists of processes are equal
abbrev pub same_members : List ℕ → List ℕ → Bool
same_members = pointwise ◌==◌

-- how many of the proposals have these members
abbrev pub votes_of : List (List ℕ) → List ℕ → ℕ
votes_of cast members = count_by (λ c. same_members c members) cast

-- the largest number of proposals with equal members, 0 if there is none
abbrev pub most_votes : List (List ℕ) → ℕ
most_votes cast = fold max 0 (map (λ c. votes_of cast c) cast)

-- the members that a receiver proposed
abbrev pub members_of : Option Proposal → Option (List ℕ)
members_of None = None
members_of (Some p) = Some p.members

-- the members of all proposals that were made, in the order of the receivers
abbrev pub cast_of : List (Option Proposal) → List (List ℕ)
cast_of proposals = filter_map members_of proposals

-- ---- a ballot as contracts see it: the members that were proposed, each with its votes

-- the votes of these members, 0 if the ballot doesn't have them
abbrev pub votes_in : List (List ℕ × ℕ) → List ℕ → ℕ
votes_in ballot members = unwrap_or (lookup (same_members members) ballot) 0

-- these proposals have been counted: each list of members has as many votes as there are proposals of it
abbrev pub HasCounted : List (List ℕ × ℕ) → List (List ℕ) → Type 0
HasCounted ballot cast = (members : List ℕ) → votes_in ballot members ≡ votes_of cast members
