-- The processes that matter for proposals in a trial: those that are reported by all its alerts.
use Rattle.std.specs.Prelude.{◌≡◌, ℕ, ◌<◌, ◌^◌, List, map, filter, length, slice_index, All, Option, Some, None}
use Rattle.std.specs.Prelude.{option_map, IfSome, if◌then◌else◌}
use Rattle.std.specs.List.{range_with_len, list_any}
use Rattle.cut_rings.specs.declared.edge.Edge.{Edge}
use Rattle.cut_rings.specs.Edges.{EdgeSet, set_of, edge_to, rings_to}
use Rattle.cut_rings.specs.Layout.{Layout, observer_of}
use Rattle.cut_detector.specs.Rule.{Rule}
use Rattle.cut_detector.specs.Counts.{is_reported, is_gained, is_full, is_some_stable}
use Rattle.cut_arrivals.specs.declared.candidates.candidate.Cause.{Cause}
use Rattle.cut_arrivals.specs.declared.candidates.candidate.Candidate.{Candidate}
use Rattle.cut_arrivals.specs.declared.candidates.candidates.Candidates as declared
use Rattle.cut_arrivals.specs.candidates.KeyPlaces.{key_of, key_in, AreKeyPlaces}

-- what makes a ring count for s: its key if its edge is in the set, and its observer if it is gained
abbrev pub cause_of : Layout → Rule → EdgeSet → ℕ → ℕ → Option (ℕ × ℕ) × Option ℕ
cause_of r rule E s ring = (
  if E ring s then Some (key_of rule.k (edge_to s ring)) else None,
  if is_gained r rule E ring s then Some (observer_of r ring s) else None,
)

-- the same, as it is kept: by a key place among some blocks, and a place among some subjects
abbrev pub cause_in : List ℕ → List ℕ → Cause → Option (ℕ × ℕ) × Option ℕ
cause_in blocks subjects c = (
  option_map (λ key_place. key_in blocks key_place) c.heard,
  option_map (λ place. slice_index subjects place) c.gained,
)

-- key place and place are among these blocks and subjects
pub record AreCandidatesWithin (blocks subjects : List ℕ) (c : Cause) : Type 0 where
  pub heard : IfSome c.heard (λ key_place. (key_place.block < length blocks) × (key_place.key < 8))
  pub gained : IfSome c.gained (λ place. place < length subjects)

-- a process with its alerts, and the rings that count for it when all alerts have come
pub record IsCandidate (r : Layout) (rule : Rule) (E : EdgeSet) (blocks subjects : List ℕ) (d : Candidate)
    : Type 0 where
  pub heard : AreKeyPlaces rule.k blocks (map (λ ring. edge_to d.subject ring) (rings_to rule.k E d.subject))
      d.heard.items
  pub causes : map (λ c. cause_in blocks subjects c) d.causes.items
      ≡ map (λ ring. cause_of r rule E d.subject ring) (rings_to rule.k (is_full r rule E) d.subject)
  pub within : All (λ c. AreCandidatesWithin blocks subjects c) d.causes.items
  pub gains : d.gains ≡ list_any (λ ring. is_gained r rule E ring d.subject) (range_with_len 0 rule.k)

-- the subjects of candidates
abbrev pub subjects_of : List Candidate → List ℕ
subjects_of candidates = map (λ d. d.subject) candidates

-- all the processes that are reported by a list of edges, ascending
pub record AreCandidatesOf (r : Layout) (rule : Rule) (edges : List Edge) (x : declared.Candidates) : Type 0 where
  pub subjects : subjects_of x.candidates.items ≡ filter (λ s. is_reported rule (set_of edges) s)
      (range_with_len 0 r.nodes)
  pub each : All (λ d. IsCandidate r rule (set_of edges) x.blocks.items (subjects_of x.candidates.items) d)
      x.candidates.items
  pub blocks : All (λ block. block < 2 ^ 13) x.blocks.items
  pub ends : x.ends_stable ≡ is_some_stable r rule (set_of edges)
