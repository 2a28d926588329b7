-- How the candidates of a trial are made, subject by subject and ring by ring.
use Rattle.std.specs.Prelude.{◌≡◌, ℕ, ◌<◌, ◌^◌, List, map, filter, length, slice_index, All, Option, Some, None}
use Rattle.std.specs.Prelude.{option_map, IfSome, if◌then◌else◌}
use Rattle.std.specs.List.{range_with_len}
use Rattle.cut_rings.specs.declared.edge.Edge.{Edge}
use Rattle.cut_rings.specs.Edges.{EdgeSet, set_of}
use Rattle.cut_rings.specs.Layout.{Layout, observer_of}
use Rattle.cut_detector.specs.Rule.{Rule, rule_in}
use Rattle.cut_detector.specs.Counts.{is_reported, is_gained}
use Rattle.cut_arrivals.specs.declared.candidates.candidate.Cause.{Cause}
use Rattle.cut_arrivals.specs.declared.candidates.candidate.Candidate.{Candidate}
use Rattle.cut_arrivals.specs.declared.candidates.reported.Reported.{Reported}
use Rattle.cut_arrivals.specs.candidates.inside.Runs.{run_of}
use Rattle.cut_arrivals.specs.candidates.Candidates.{cause_of, cause_in, AreCandidatesWithin, IsCandidate, subjects_of}

-- the edges and the rule of a trial
abbrev pub alerts_of : Reported → EdgeSet
alerts_of t = set_of t.edges.now

abbrev pub rule_of_reported : Reported → Rule
rule_of_reported t = rule_in t.rule

-- the alerts about a process
pub record IsRunOfCandidates (t : Reported) (s : ℕ) (edges : List Edge) : Type 0 where
  pub process : s < t.rings.now.nodes
  pub all : edges ≡ run_of t.rule.k (alerts_of t) s

-- the place among the subjects of the observer that a ring gains for s, if it gains
pub record IsGain (r : Layout) (rule : Rule) (E : EdgeSet) (subjects : List ℕ) (ring s : ℕ)
    (gained : Option ℕ) : Type 0 where
  pub place : option_map (λ place. slice_index subjects place) gained
      ≡ (if is_gained r rule E ring s then Some (observer_of r ring s) else None)
  pub within : IfSome gained (λ place. place < length subjects)

-- the causes of some rings of s
pub record AreCauses (t : Reported) (blocks rings : List ℕ) (s : ℕ) (causes : List Cause) : Type 0 where
  pub each : map (λ c. cause_in blocks t.subjects.now c) causes
      ≡ map (λ ring. cause_of t.rings.now (rule_of_reported t) (alerts_of t) s ring) rings
  pub within : All (λ c. AreCandidatesWithin blocks t.subjects.now c) causes

-- the candidates among the first s processes
pub record HasListed (t : Reported) (s : ℕ) (blocks : List ℕ) (candidates : List Candidate) : Type 0 where
  pub subjects : subjects_of candidates ≡ filter (λ s. is_reported (rule_of_reported t) (alerts_of t) s)
      (range_with_len 0 s)
  pub each : All (λ d. IsCandidate t.rings.now (rule_of_reported t) (alerts_of t) blocks t.subjects.now d) candidates
  pub small : All (λ block. block < 2 ^ 13) blocks
