-- What a board reports of a study at its end, and why a hall is not closed.
use Rattle.std.proofs.Common.{◌≡◌, ℕ, ◌<◌, ◌∙◌, List, length, Some, ap, arith, zero-add}
use Rattle.std.specs.Prelude.{slice_get, option_map, Result, Ok, Err, IfErr}
use Rattle.std.specs.List.{range_with_len}
use Rattle.std.proofs.lemmas.Option.{slice_get-map, slice_get-get_or}
use Rattle.std.proofs.lemmas.List.FromFn.{get_or-range_with_len, length-range_with_len, length-map-range_with_len}
use Rattle.cut_board.specs.declared.view.View.{View}
use Rattle.cut_board.specs.Totals.{total_of, totals_of}
use Rattle.cut_slots.specs.Pass.{Holding}
use Rattle.cut_slots.specs.declared.not_closed.NotClosed.{NotClosed}
use Rattle.cut_slots.specs.declared.not_closed.NotClosed.TheVariants.{Memory, AuditMismatch, SeatMissing}
use Rattle.cut_hall.specs.Closing.{IsNotClosed}
use Rattle.cut_hall.specs.Hall.{HallValue}

pub total_at : (n : ℕ) (views : List View) (study : ℕ) → study < n → slice_get (totals_of n views) study
    ≡ Some (total_of views study)
total_at n views study low =
    slice_get-map (total_of views) (range_with_len 0 n) study
    ∙ ap (λ o. option_map (total_of views) o)
    (slice_get-get_or (range_with_len 0 n) study 0 (omega (arith, low, length-range_with_len 0 n))
    ∙ ap (λ k. Some k) (get_or-range_with_len 0 n study 0 low ∙ zero-add study))

pub totals_many : (n : ℕ) (views : List View) → length (totals_of n views) ≡ n
totals_many n views = length-map-range_with_len (total_of views) 0 n

-- ---- halls that are not closed

-- what says nothing of passes that come back says so of whatever does
pub refused_as : {A T : Type 0} (Q : T → Type 0) (h k : HallValue) (passes : List Holding)
    (result : Result A (NotClosed T)) → h ≡ k → IfErr result (λ e. IsNotClosed (λ _. ⊥) h passes e)
    → IfErr result (λ e. IsNotClosed Q k passes e)
refused_as Q h k passes (Ok x) same is = tt
refused_as Q h k passes (Err Memory) same is = rw (← same) is
refused_as Q h k passes (Err (AuditMismatch m)) same is = rw (← same) is
refused_as Q h k passes (Err (SeatMissing back)) same is = absurd is.1
