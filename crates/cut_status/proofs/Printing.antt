-- The lines of a status, as they are put together.
use Rattle.std.proofs.Common.{◌≡◌, ◌∙◌, ◌++◌, ◌∷◌, [], List, ℕ, codes, append_assoc, ap, refl}
use Rattle.std.specs.Fmt.{decimal}
use Rattle.cut_plan.specs.Values.{Values}
use Rattle.cut_ledger.specs.declared.slip.Slip.{Slip}
use Rattle.cut_status.specs.Status.{StatusValue, lines_over, status_over, status_text}

-- the first three
abbrev pub count_lines : StatusValue → List ℕ
count_lines s =
    codes "trials " ++ (decimal s.held ++ (codes " of " ++ (decimal s.trials
    ++ (10 ∷ codes "cells " ++ (decimal s.done ++ (codes " of " ++ (decimal s.cells
    ++ (10 ∷ codes "slips " ++ (decimal s.slips ++ 10 ∷ [])))))))))

pub lines_are : (s : StatusValue) (counts all : List ℕ) → counts ≡ count_lines s → all ≡ (counts ++ s.text) ++ 10 ∷ []
    → all ≡ status_text s
unfolding status_text
lines_are s counts all count is = is ∙ ap (λ (xs : List ℕ). (xs ++ s.text) ++ 10 ∷ []) count ∙ simp append_assoc

-- the text of the status over slips
pub printed_over : (v : Values) (ss : List Slip) → status_text (status_over v ss) ≡ lines_over v ss
unfolding status_text lines_over
printed_over v ss = refl
