-- The line of a join, as it is put together.
use Rattle.std.proofs.Common.{◌≡◌, ◌∙◌, ◌++◌, ◌∷◌, [], List, ℕ, codes, append_assoc, length}
use Rattle.std.specs.Fmt.{decimal}
use Rattle.cut_plan.specs.Cells.{trial_count}
use Rattle.cut_plan.specs.Values.{Values}
use Rattle.cut_ledger.specs.declared.slip.Slip.{Slip}
use Rattle.cut_status.specs.Status.{held_trials}
use Rattle.cut_shares.specs.join.Joined.{joined}
use Rattle.cut_machines.specs.JoinCommand.{joined_text}

parts_joined : (a b c d e f g h z : List ℕ) → a ++ (b ++ (c ++ (d ++ (e ++ (f ++ (g ++ (h ++ z)))))))
    ≡ a ++ b ++ c ++ d ++ e ++ (f ++ g ++ h) ++ z
parts_joined a b c d e f g h z = simp append_assoc

pub line_is : (v : Values) (ss : List Slip) (count held trials : ℕ) (bytes : List ℕ) → count ≡ length (joined v ss)
    → held ≡ held_trials v ss → trials ≡ trial_count v
    → bytes ≡ codes "joined " ++ (decimal (length ss) ++ (codes " into " ++ (decimal count ++ (codes ", " ++ (decimal held
    ++ (codes " of " ++ (decimal trials ++ 10 ∷ [])))))))
    → bytes ≡ joined_text v ss
unfolding joined_text
line_is v ss count held trials bytes counted holds all is =
    rw (counted, holds, all) at is
    ∙ parts_joined (codes "joined ") (decimal (length ss)) (codes " into ") (decimal (length (joined v ss)))
    (codes ", ") (decimal (held_trials v ss)) (codes " of ") (decimal (trial_count v)) (10 ∷ [])
