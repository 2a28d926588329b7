-- What serving studies leaves, and how it may end.
use Rattle.std.specs.Prelude.{◌≡◌, ◌<◌, ◌++◌, ◌∷◌, ℕ, zero, suc, List, [], All, length, take, sum_by, codes}
use Rattle.std.specs.Prelude.{Result, Ok, Err, ⊤}
use Rattle.std.specs.List.{sum}
use Rattle.std.specs.Fmt.{decimal}
use Rattle.cut_faults.specs.Failures.{one_more}
use Rattle.cut_wires.specs.Log.{WireLog, wrote, write_failed}
use Rattle.cut_slots.specs.Report.{SlotEnd, IsAcceptedCount, IsEndOf, accepted_recorded}
use Rattle.cut_commands.specs.Run.{IsWritten}
use Rattle.cut_commands.specs.declared.fault.CliFault.{CliFault}
use Rattle.cut_commands.specs.declared.fault.CliFault.TheVariants.{Socket, Write, Folder, WorkMemory, AuditMismatch}

-- why there is no report
abbrev pub IsOfServing : CliFault → Type 0
IsOfServing Socket = ⊤
IsOfServing WorkMemory = ⊤
IsOfServing AuditMismatch = ⊤
IsOfServing fault = ⊥

-- ---- a listener

-- how many connections a listener gave, and how many of its calls failed; at 2^64 - 1 a count stays
pub record Calls : Type 0 where
  pub given : ℕ
  pub failed : ℕ

-- with one more call for a connection, by what it returned
abbrev pub called : {T E : Type 0} → Result T E → Calls → Calls
called (Ok connection) calls = record { given = one_more calls.given; failed = calls.failed }
called (Err fault) calls = record { given = calls.given; failed = one_more calls.failed }

-- after this many more connections
abbrev pub more_given : ℕ → ℕ → ℕ
more_given zero n = n
more_given (suc connections) n = one_more (more_given connections n)

abbrev pub all_given : ℕ → Calls → Calls
all_given connections calls = record { given = more_given connections calls.given; failed = calls.failed }

-- a listener was asked for this many connections: one did not come, and that call failed and no other; or memory or a
-- thread was refused, and no call failed; or all of them came, whatever happened then
abbrev pub Listens : {T : Type 0} → ℕ → Result T CliFault → Calls → Calls → Type 0
Listens connections (Err Socket) old new = new.failed ≡ one_more old.failed
Listens connections (Err WorkMemory) old new = new.failed ≡ old.failed
Listens connections result old new = new ≡ all_given connections old

-- ---- the report

-- how many trials the studies of a report accepted together
abbrev pub accepted_in_all : List SlotEnd → ℕ
accepted_in_all slots = sum_by (λ s. accepted_recorded s.history) slots

-- the line that says how many trials were accepted
abbrev pub accepted_line : ℕ → List ℕ
accepted_line total = codes "accepted " ++ (decimal total ++ 10 ∷ [])

-- a report of this many studies: each slot's end is that of a legal history, which accepted no more than its plan has
pub record IsReport (studies : ℕ) (report : List SlotEnd) : Type 0 where
  pub slots : length report ≡ studies
  pub legal : All (λ s. IsEndOf s.history s.complete) report
  pub few : All (λ s. IsAcceptedCount (accepted_recorded s.history)) report

-- the line of a report was written, or its first bytes before a write failed
abbrev pub IsWrittenWhole : List SlotEnd → WireLog → WireLog → Type 0
IsWrittenWhole report old new = new ≡ wrote old (accepted_line (accepted_in_all report))

abbrev pub IsWrittenUpTo : ℕ → List SlotEnd → WireLog → WireLog → Type 0
IsWrittenUpTo sent report old new =
    (sent < length (accepted_line (accepted_in_all report)))
    × (new ≡ write_failed (wrote old (take sent (accepted_line (accepted_in_all report)))))

-- what is written of a server of this many studies: the line of the report that it returns, or as many of its first
-- bytes as were written before a write failed; and nothing if there is no report. No other call of the wire fails.
abbrev pub WritesReport : ℕ → Result (List SlotEnd) CliFault → WireLog → WireLog → Type 0
WritesReport studies (Ok report) old new = IsReport studies report × IsWrittenWhole report old new
WritesReport studies (Err (Write fault)) old new =
    (report : List SlotEnd) × (IsReport studies report × IsWrittenUpTo fault.sent report old new)
WritesReport studies (Err Folder) old new = new ≡ old
WritesReport studies (Err Socket) old new = new ≡ old
WritesReport studies (Err WorkMemory) old new = new ≡ old
WritesReport studies (Err AuditMismatch) old new = new ≡ old
WritesReport studies (Err fault) old new = ⊥

-- ---- if the report is not returned

-- how many trials the studies of a server accepted, slot by slot
pub record AreAccepted (studies : ℕ) (counts : List ℕ) : Type 0 where
  pub slots : length counts ≡ studies
  pub each : All IsAcceptedCount counts

-- nothing is written if no report is; else the line that says how many trials all studies accepted, or as many of its
-- first bytes as are reported when a write failed
abbrev pub EndsServing : ℕ → Result ⊤ CliFault → WireLog → WireLog → Type 0
EndsServing studies (Err Folder) old new = new ≡ old
EndsServing studies (Err Socket) old new = new ≡ old
EndsServing studies (Err WorkMemory) old new = new ≡ old
EndsServing studies (Err AuditMismatch) old new = new ≡ old
EndsServing studies result old new =
    (counts : List ℕ) × (AreAccepted studies counts × IsWritten (accepted_line (sum counts)) result old new)
