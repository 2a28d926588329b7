-- Laws of observers, and of the numbers of edges.
use Rattle.std.specs.Prelude.{◌≡◌, ℕ, ◌*◌, ◌<◌, length, IsTrue}
use Rattle.cut_rings.specs.declared.edge.Edge.{Edge}
use Rattle.cut_rings.specs.Layout.{Layout, IsLayout, Observes, observer_of}
use Rattle.cut_rings.specs.Edges.{edge_number, is_edge_of}

-- the observer of a process is a process, which observes it
abbrev pub ObserversAreProcesses : Type 0
ObserversAreProcesses =
    (r : Layout) → IsLayout r → (ring s : ℕ) → ring < length r.positions → s < r.nodes →
    (observer_of r ring s < r.nodes) × Observes r ring (observer_of r ring s) s

-- the edges of k rings and n processes have numbers below n * k
abbrev pub EdgeNumbersAreFew : Type 0
EdgeNumbersAreFew = (k n : ℕ) (e : Edge) → IsTrue (is_edge_of k n e) → edge_number k e < n * k

-- and edges of one number are one edge
abbrev pub EdgeNumbersNameEdges : Type 0
EdgeNumbersNameEdges =
    (k : ℕ) (e f : Edge) → e.ring < k → f.ring < k → edge_number k e ≡ edge_number k f → e ≡ f
