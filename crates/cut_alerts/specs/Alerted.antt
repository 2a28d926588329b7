-- Which edges are alerted. (That an observer reports a subject that it can't hear is the Rapid
-- paper's; the four cases are this project's profile.)
use Rattle.std.specs.Prelude.{ℕ, ◌<◌, ◌&&◌, ◌||◌, Bool, true, false, not, List, map, filter, IsTrue}
use Rattle.std.specs.List.{range_with_len, flat_map}
use Rattle.cut_plan.specs.declared.dead.Dead.{Dead}
use Rattle.cut_plan.specs.declared.dead.Dead.TheVariants.{Silent, Speak}
use Rattle.cut_rings.specs.declared.edge.Edge.{Edge}
use Rattle.cut_rings.specs.Layout.{Layout, observer_of}
use Rattle.cut_alerts.specs.Assignment.{Assignment, has_crashed, is_deaf, is_target, is_liar, is_cut}

-- whether crashed observers raise alerts
abbrev pub speaks : Dead → Bool
speaks Silent = false
speaks Speak = true

-- o raises an alert about s: s is a target, and o has not crashed or the dead speak; or o is deaf; or o
-- is a liar; or the link between the two is cut in either direction, and o has not crashed
abbrev pub alerts_about : Assignment → ℕ → ℕ → Bool
alerts_about a o s =
    (is_target a s && (not (has_crashed a o) || speaks a.dead))
    || is_deaf a o
    || is_liar a o
    || ((is_cut a o s || is_cut a s o) && not (has_crashed a o))

-- whether an edge is alerted: its observer raises an alert about its subject
abbrev pub is_alerted : Layout → Assignment → Edge → Bool
is_alerted r a e = alerts_about a (observer_of r e.ring e.subject) e.subject

-- an alerted edge of the first k rings
abbrev pub IsAlerted : Layout → Assignment → ℕ → Edge → Type 0
IsAlerted r a k e = (e.ring < k) × (e.subject < r.nodes) × IsTrue (is_alerted r a e)

-- the edges of a subject on the first k rings, in order of the rings
abbrev pub edges_of : ℕ → ℕ → List Edge
edges_of k s = map (λ ring. record { ring = ring; subject = s }) (range_with_len 0 k)

-- the edges of the first k rings of n processes, ascending by subject and then by ring
abbrev pub all_edges : ℕ → ℕ → List Edge
all_edges k n = flat_map (λ s. edges_of k s) (range_with_len 0 n)

-- the alerted edges of the first k rings, ascending by edge number
abbrev pub alert_list : Layout → Assignment → ℕ → List Edge
alert_list r a k = filter (λ e. is_alerted r a e) (all_edges k r.nodes)
