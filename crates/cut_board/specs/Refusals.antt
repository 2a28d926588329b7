-- Which calls of a seat are refused, and how.
use Rattle.std.specs.Prelude.{◌≡◌, Result, MatchResult, ℕ, ◌+◌, Bool, true, nat_lt, nat_le, if◌then◌else◌}
use Rattle.std.specs.Prelude.{Option, Some, None}
use Rattle.cut_board.specs.declared.fault.SeatFault.{SeatFault}
use Rattle.cut_board.specs.declared.fault.SeatFault.TheVariants.{NoSlot, SeatFull}
use Rattle.cut_board.specs.declared.view.View.{View}
use Rattle.cut_board.specs.Rule.{seat_limit}
use Rattle.cut_board.specs.Views.{draws_in, amount_in}

-- a call is refused exactly where there is a reason, and for that reason
abbrev pub IsRefusedBy : {T : Type 0} → Option SeatFault → Result T SeatFault → Type 0
IsRefusedBy why result = MatchResult result (λ _. why ≡ None) (λ e. why ≡ Some e)

-- a call for a study: there is none of that number, or the seat may not do so much
abbrev pub refusal : ℕ → ℕ → Bool → Option SeatFault
refusal studies study has_room =
    if nat_lt study studies then (if has_room then None else Some SeatFull) else Some NoSlot

-- of a draw: it would be one more than a seat may draw
abbrev pub draw_refusal : ℕ → View → ℕ → Option SeatFault
draw_refusal studies v study = refusal studies study (nat_lt (draws_in v) seat_limit)

-- of a count of n: it would be more than a seat may count
abbrev pub count_refusal : ℕ → View → ℕ → ℕ → Option SeatFault
count_refusal studies v study n = refusal studies study (nat_le (amount_in v + n) seat_limit)

-- of a read, which has no limit
abbrev pub read_refusal : ℕ → ℕ → Option SeatFault
read_refusal studies study = refusal studies study true
