-- The first line of an explanation.
use Rattle.std.specs.Prelude.{ℕ, List, [], ◌∷◌, ◌++◌, codes, Result, Ok, Err}
use Rattle.cut_plan.specs.declared.refusal.Refusal.{Refusal}
use Rattle.cut_plan.specs.Refusals.{refusal_text}
use Rattle.cut_plan.specs.Values.{Values}

-- that a text is a plan, or that it is refused and by which fault, with a line feed
abbrev pub first_line : Result Values Refusal → List ℕ
first_line (Ok v) = codes "accepted" ++ 10 ∷ []
first_line (Err refusal) = codes "refused: " ++ (refusal_text refusal ++ 10 ∷ [])
