-- What a hall reports at its end.
use Rattle.std.specs.Prelude.{◌≡◌, ◌≢◌, ◌≤◌, ◌⊎◌, ℕ, Bool, false, List, length, map, sum_by, Option, Some, None}
use Rattle.std.specs.Prelude.{slice_get, Ok, All, option_map}
use Rattle.cut_board.specs.Views.{counted_by}
use Rattle.cut_plan.specs.Cells.{trial_count}
use Rattle.cut_plan.specs.Accepted.{plan_of}
use Rattle.cut_plan.specs.Values.{Values}
use Rattle.cut_ledger.specs.Contents.{is_complete}
use Rattle.cut_ledger.specs.Machine.{StudyState}
use Rattle.cut_book.specs.History.{Opening, HistoryValue, opened_by, LeadsTo, accepted_in}
use Rattle.cut_slots.specs.Pass.{Holding}

-- ---- a slot

-- the history of its study, if it had one, and whether every trial of it was held at the end
pub record SlotEnd : Type 0 where
  pub history : Option HistoryValue
  pub complete : Bool

-- the history leads to a state in which every trial is held, or not; a slot without a study is not complete
abbrev pub IsEndOf : Option HistoryValue → Bool → Type 0
IsEndOf None complete = complete ≡ false
IsEndOf (Some h) complete = (t : StudyState) × (LeadsTo (opened_by h.opening) h.calls t
    × (complete ≡ is_complete t.ledger))

-- with what the study was opened
abbrev pub opening_recorded : Option HistoryValue → Option Opening
opening_recorded history = option_map (λ h. h.opening) history

-- how many calls the study had
abbrev pub calls_recorded : Option HistoryValue → ℕ
calls_recorded None = 0
calls_recorded (Some h) = length h.calls

-- how many trials it accepted
abbrev pub accepted_recorded : Option HistoryValue → ℕ
accepted_recorded None = 0
accepted_recorded (Some h) = accepted_in h.calls

-- a slot may have accepted this many trials: none if it had no study, and else no more than the plan of a text has
abbrev pub IsAcceptedCount : ℕ → Type 0
IsAcceptedCount n =
    (n ≡ 0) ⊎ ((text : List ℕ) × (v : Values) × (plan_of text ≡ Ok v) × (n ≤ trial_count v))

-- ---- all slots

-- every slot had a study, which was opened with this
abbrev pub AreOpenedBy : Opening → List SlotEnd → Type 0
AreOpenedBy opening slots = All (λ s. opening_recorded s.history ≡ Some opening) slots

-- how many calls the studies had together, and how many the passes made together
abbrev pub calls_in_all : List SlotEnd → ℕ
calls_in_all slots = sum_by (λ s. calls_recorded s.history) slots

abbrev pub made_in_all : List Holding → ℕ
made_in_all passes = sum_by (λ p. p.made) passes

-- what the passes counted of a study on the board
abbrev pub counted_in_all : ℕ → List Holding → ℕ
counted_in_all study passes = counted_by study (map (λ p. p.view) passes)

-- the study of a slot accepted another number of trials than this
abbrev pub AcceptedOther : List SlotEnd → ℕ → ℕ → Type 0
AcceptedOther slots study counted =
    (s : SlotEnd) → slice_get slots study ≡ Some s → counted ≢ accepted_recorded s.history

-- of every slot, what the passes counted is what its study accepted
abbrev pub IsAudited : List SlotEnd → List Holding → Type 0
IsAudited slots passes =
    (study : ℕ) (s : SlotEnd) → slice_get slots study ≡ Some s
    → counted_in_all study passes ≡ accepted_recorded s.history
