-- How the program ends: which job ran, what it left in its files, of its sockets and on its wires, and its status.
use Rattle.std.specs.Prelude.{◌≡◌, ◌≢◌, ◌<◌, ◌⊎◌, ℕ, List, [], length, Result, Ok, Err, ⊤, codes, ◌++◌, ◌∷◌}
use Rattle.std.specs.declared.io.ErrorKind as io
use Rattle.std.specs.declared.io.ErrorKind.TheVariants.{InvalidData}
use Rattle.clap.specs.Words.{fault_of}
use Rattle.clap.specs.declared.error.kind.ErrorKind.{ErrorKind}
use Rattle.clap.specs.declared.error.kind.ErrorKind.TheVariants.{OutOfMemory}
use Rattle.cut_wires.specs.Log.{WireLog, wrote}
use Rattle.cut_wires.specs.declared.send.Sent.{Sent}
use Rattle.cut_command_line.specs.options.Options.{program_app}
use Rattle.cut_command_line.specs.Line.{NamesJob, status_of_kind, IsAsked}
use Rattle.cut_command_line.specs.declared.job.Job.{Job}
use Rattle.cut_commands.specs.Faults.{fault_line, status_of}
use Rattle.cut_commands.specs.declared.fault.CliFault.{CliFault}
use Rattle.cut_commands.specs.declared.fault.CliFault.TheVariants.{Memory, Write}
use Rattle.cut_jobs.specs.Jobs.{EndsJob, PrintsOn, TellsRefused}
use Rattle.cut_jobs.specs.Paths.{Paths}
use Rattle.cut_jobs.specs.Sending.{IsCutShort, IsSent}

-- how the end of a command is reported on the errors and by the status: nothing and 0 if it was done, else the fault's
-- line and status
abbrev pub ReportsEnd : Result ⊤ CliFault → WireLog → WireLog → ℕ → Type 0
ReportsEnd (Ok done) old new status = (new ≡ old) × (status ≡ 0)
ReportsEnd (Err fault) old new status = IsSent (fault_line fault) old new × (status ≡ status_of fault)

-- the words name a job, and clap finds no fault in them: the job ran, and its end is reported after what it printed
pub record RunsJob (words : List (List ℕ)) (before after : Paths) (old new errors_old errors_new : WireLog) (status : ℕ)
    : Type 0 where
  pub job : Job
  pub named : NamesJob words job
  pub faultless : fault_of program_app words ≡ []
  pub ended : Result ⊤ CliFault
  pub ends : EndsJob job before after old new ended
  pub errors_then : WireLog
  pub prints : PrintsOn job ended errors_old errors_then
  pub tells : TellsRefused job before.places after.places old new ended errors_old errors_then
  pub reported : ReportsEnd ended errors_then errors_new status

-- how a command line without a job is reported, by the status and the text that clap gives it
pub record ReportsLine (line_status : ℕ) (text : List ℕ) (old new errors_old errors_new : WireLog) (status : ℕ)
    : Type 0 where
  -- no memory was left for the text
  pub no_text : text ≡ [] → (new ≡ old) × ReportsEnd (Err Memory) errors_old errors_new status
  -- help goes to the output, or a part of it, which is reported as a failed write
  pub help : 0 < length text → line_status ≡ 0
      → ((new ≡ wrote old text) × (errors_new ≡ errors_old) × (status ≡ 0))
      ⊎ ((fault : Sent) × IsCutShort text fault.sent old new
      × ReportsEnd (Err (Write fault)) errors_old errors_new status)
  -- a mistake goes to the errors
  pub mistake : 0 < length text → line_status ≢ 0
      → (new ≡ old) × IsSent text errors_old errors_new × (status ≡ line_status)

-- how the program ends: the words name a job, or they name none, and then what clap says of them is reported, or that
-- memory ran out, and no file and no socket is touched
abbrev pub EndsProgram : List (List ℕ) → Paths → Paths → WireLog → WireLog → WireLog → WireLog → ℕ → Type 0
EndsProgram words before after old new errors_old errors_new status =
    RunsJob words before after old new errors_old errors_new status
    ⊎ ((kind : ErrorKind) × (text : List ℕ) × IsAsked words kind × (kind ≡ OutOfMemory → text ≡ []) × (after ≡ before)
    × ReportsLine (status_of_kind kind) text old new errors_old errors_new status)

-- how it is reported if the words themselves can't be read: one that is not UTF-8 is a mistake in them, else memory ran
-- out
abbrev pub ReportsUnread : io.ErrorKind → WireLog → WireLog → ℕ → Type 0
ReportsUnread InvalidData old new status =
    IsSent (codes "error: a word of the command line is not UTF-8" ++ 10 ∷ []) old new × (status ≡ 2)
ReportsUnread kind old new status = ReportsEnd (Err Memory) old new status
