use Rattle.std.proofs.Common.{◌≡◌, ◌<◌, ℕ, Some}
use Rattle.std.specs.Prelude.{slice_get}
use Rattle.cut_board.specs.declared.totals.StudyTotals.{StudyTotals}
use Rattle.cut_slots.specs.Report.{SlotEnd, accepted_recorded}
use Rattle.cut_slots.proofs.closing.audit.Given as goal

-- the studies so far agree
abbrev pub invariant-loop-study : goal.invariant-loop-study
invariant-loop-study l =
    (k : ℕ) (s : SlotEnd) (t : StudyTotals) → k < l.study
    → slice_get l.slots.items k ≡ Some s → slice_get l.totals k ≡ Some t → t.count ≡ accepted_recorded s.history
