-- The parameters of cut detection.
use Rattle.std.specs.Prelude.{ℕ, Bool}
use Rattle.cut_detector.specs.declared.rule.Rule as kept

-- how many rings there are, the high and the low watermark (K, H and L of the Rapid paper), and
-- whether implicit alerts are added
pub record Rule : Type 0 where
  pub k : ℕ
  pub h : ℕ
  pub l : ℕ
  pub implicit : Bool

-- the rule of four parameters
abbrev pub rule_of : ℕ → ℕ → ℕ → Bool → Rule
rule_of k h l implicit = record { k = k; h = h; l = l; implicit = implicit }

-- the rule that is kept
abbrev pub rule_in : kept.Rule → Rule
rule_in rule = rule_of rule.k rule.h rule.l rule.implicit
