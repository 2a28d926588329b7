-- What a report says of a server's line, and what the program's contract says of it, is the same.
use Rattle.std.specs.Prelude.{ℕ, List, Result, Ok, Err, ⊤}
use Rattle.cut_wires.specs.Log.{WireLog}
use Rattle.cut_slots.specs.Report.{SlotEnd}
use Rattle.cut_commands.specs.declared.fault.CliFault.{CliFault}
use Rattle.cut_server.specs.Serve.{EndsServing, IsReport, IsWrittenWhole, WritesReport}

-- the line is that of a report that is not returned: each slot's end is that of a legal history
abbrev pub EndsByHistories : ℕ → Result ⊤ CliFault → WireLog → WireLog → Type 0
EndsByHistories studies (Ok done) old new =
    (report : List SlotEnd) × (IsReport studies report × IsWrittenWhole report old new)
EndsByHistories studies (Err fault) old new = WritesReport studies (Err fault) old new

-- if the line has counts that are no more than the trials of plans, there are histories that give them
abbrev pub CountsHaveHistories : Type 0
CountsHaveHistories =
    (studies : ℕ) (result : Result ⊤ CliFault) (old new : WireLog)
    → EndsServing studies result old new → EndsByHistories studies result old new
