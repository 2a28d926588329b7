-- What implicit alerts add where a process enters the reported ones.
use Rattle.std.specs.Prelude.{◌≡◌, ℕ, ◌<◌, ◌==◌, ◌||◌, ◌&&◌, Bool, List, vec_len}
use Rattle.cut_rings.specs.Layout.{Layout, observer_of}
use Rattle.cut_rings.specs.Edges.{EdgeSet}
use Rattle.cut_detector.specs.declared.gains.Gains.{Gains}
use Rattle.cut_detector.specs.declared.tally.Tally.{Tally}
use Rattle.cut_detector.specs.Rule.{Rule, rule_in}
use Rattle.cut_detector.specs.Counts.{is_gained, is_full}
use Rattle.cut_detector.specs.Masks.{edges_in}

abbrev pub rule_of_gains : Gains → Rule
rule_of_gains g = rule_in g.rule

-- the reported edges
abbrev pub reported_in : Gains → EdgeSet
reported_in g = edges_in g.reported.now.masks.items

-- whether process p or its observer on a ring is s
abbrev pub is_near : Layout → ℕ → ℕ → ℕ → Bool
is_near r s ring p = (p == s) || (observer_of r ring p == s)

-- a tally by the rule of these gains, of the processes of their rings
pub record IsTallyFor (g : Gains) (t : Tally) : Type 0 where
  pub rule : t.rule ≡ g.rule
  pub long : vec_len t.full.masks ≡ g.rings.now.nodes

-- to the rings that count are added those which s gains, and those which its subjects gain from it
pub record AddsGains (g : Gains) (s : ℕ) (old new : List ℕ) : Type 0 where
  pub full : (ring p : ℕ) → ring < g.rule.k → p < g.rings.now.nodes → edges_in new ring p
      ≡ (edges_in old ring p || (is_near g.rings.now s ring p
      && is_gained g.rings.now (rule_of_gains g) (reported_in g) ring p))

-- masks hold which rings count, where other masks hold the reported edges
abbrev pub HoldsFull : Layout → Rule → List ℕ → List ℕ → Type 0
HoldsFull r rule reported full = (ring s : ℕ) → ring < rule.k → s < r.nodes → edges_in full ring s
    ≡ is_full r rule (edges_in reported) ring s
