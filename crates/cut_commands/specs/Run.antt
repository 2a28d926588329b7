-- What a command of the program leaves on its wire.
use Rattle.std.specs.Prelude.{◌≡◌, ◌<◌, ◌≤◌, ◌⊎◌, ◌++◌, ℕ, Bool, false, List, [], length, take, nat_lt, Option, Some}
use Rattle.std.specs.Prelude.{None, Result, Ok, Err, ⊤, if◌then◌else◌, option_map}
use Rattle.std.specs.Borrow.{Bor}
use Rattle.std.specs.Str.{is_utf8}
use Rattle.cut_commands.specs.declared.input.TheConstants.{TEXT_LIMIT}
use Rattle.cut_plan.specs.declared.limits.TheConstants.{LONGEST_TEXT}
use Rattle.cut_faults.specs.Failures.{one_more}
use Rattle.cut_plan.specs.declared.refusal.Refusal.{Refusal}
use Rattle.cut_plan.specs.declared.refusal.Refusal.TheVariants.{NotJson, PlanTooLong}
use Rattle.cut_plan.specs.Values.{Values}
use Rattle.cut_plan.specs.Accepted.{plan_of}
use Rattle.cut_wires.specs.Log.{WireLog, passing, wrote, read_failed, write_failed}
use Rattle.cut_disks.specs.Log.{DiskLog}
use Rattle.cut_files.specs.Place.{Place, IsStart, MayNotOpen, MayNotRead, OpensAs, closed}
use Rattle.cut_files.specs.declared.files.Mode.TheVariants.{Create}
use Rattle.cut_files.specs.declared.files.OpenFault.{OpenFault}
use Rattle.cut_commands.specs.declared.input.PlanSource.{PlanSource}
use Rattle.cut_commands.specs.declared.input.PlanSource.TheVariants as source
use Rattle.cut_commands.specs.Faults.{fault_of_files}
use Rattle.cut_commands.specs.Check.{canonical_line, check_text}
use Rattle.cut_commands.specs.Task.{Task}
use Rattle.cut_commands.specs.declared.fault.CliFault.{CliFault}
use Rattle.cut_commands.specs.declared.fault.CliFault.TheVariants.{Memory, Plan, Read, Write, Journal, BadSlip, Store}
use Rattle.cut_commands.specs.declared.fault.CliFault.TheVariants.{Checkpoint, WorkMemory, AuditMismatch}

-- ---- reading

-- a wire gave these bytes, and after them the end of its input or not
abbrev pub read_on : List ℕ → Bool → WireLog → WireLog
read_on bytes ended l =
    passing (λ t. record t { given = t.given ++ bytes; ends = if ended then one_more t.ends else t.ends }) l

-- they are the input up to its end, or as many as are read at most
abbrev pub IsReadThrough : ℕ → List ℕ → Bool → Type 0
IsReadThrough limit bytes ended = (length bytes ≤ limit) × (ended ≡ nat_lt (length bytes) limit)

-- they are a part of the input, and fewer than are read at most
abbrev pub IsReadPartly : ℕ → List ℕ → Bool → Type 0
IsReadPartly limit bytes ended = (length bytes < limit) × (ended ≡ false)

-- the refusal of a text that shows as soon as it is read: it is too long, or no UTF-8
abbrev pub refused_at_sight : List ℕ → Option Refusal
refused_at_sight text = if nat_lt LONGEST_TEXT (length text) then Some PlanTooLong else
    (if is_utf8 text then None else Some NotJson)

-- memory ran out when nothing was read yet, or after a text that is not refused at sight
abbrev pub IsReadUnrefused : List ℕ → Bool → Type 0
IsReadUnrefused text ended =
    ((text ≡ []) × (ended ≡ false)) ⊎ (IsReadThrough TEXT_LIMIT text ended × (refused_at_sight text ≡ None))

-- ---- answering

-- the first bytes of an answer to a plan
pub record IsPrefix (task : Task) (v : Values) (written : List ℕ) : Type 0 where
  pub whole : List ℕ
  pub answer : task.answers v whole
  pub count : ℕ
  pub prefix : written ≡ take count whole

-- what a command wrote that worked on a plan: all of its answer at Ok, and as many of its first bytes as are reported
-- if a write failed; nothing if memory ran out before that, a checkpoint was not opened, a slip of it is bad or its
-- slips were not all moved; and some first bytes of its answer where the checkpoint, memory or the audit stopped a
-- study that had begun, or nothing where memory did so before
abbrev pub AnswersPlan : Task → Values → Result ⊤ CliFault → List ℕ → Type 0
AnswersPlan task v (Ok done) written = task.answers v written
AnswersPlan task v (Err (Write fault)) written =
    (p : IsPrefix task v written) × (p.count ≡ fault.sent) × (fault.sent < length p.whole)
AnswersPlan task v (Err Memory) written = written ≡ []
AnswersPlan task v (Err (Journal fault)) written = task.fails v (Journal fault) × (written ≡ [])
AnswersPlan task v (Err (BadSlip number)) written = task.fails v (BadSlip number) × (written ≡ [])
AnswersPlan task v (Err (Store fault)) written = task.fails v (Store fault) × (written ≡ [])
AnswersPlan task v (Err WorkMemory) written =
    task.fails v WorkMemory × ((written ≡ []) ⊎ IsPrefix task v written)
AnswersPlan task v (Err Checkpoint) written = task.fails v Checkpoint × IsPrefix task v written
AnswersPlan task v (Err AuditMismatch) written = task.fails v AuditMismatch × IsPrefix task v written
AnswersPlan task v (Err fault) written = ⊥

-- what it wrote, having read a text: nothing if a read failed, the text or its plan is refused, or memory ran out
-- before the plan was there; else what it writes to the plan
abbrev pub CommandAnswers : Task → List ℕ → Bool → Result ⊤ CliFault → List ℕ → Type 0
CommandAnswers task text ended (Err Read) written = IsReadPartly TEXT_LIMIT text ended × (written ≡ [])
CommandAnswers task text ended (Err (Plan refusal)) written =
    IsReadThrough TEXT_LIMIT text ended × (plan_of text ≡ Err refusal) × (written ≡ [])
CommandAnswers task text ended (Err Memory) written = IsReadUnrefused text ended × (written ≡ [])
CommandAnswers task text ended result written =
    IsReadThrough TEXT_LIMIT text ended × ((v : Values) × (plan_of text ≡ Ok v) × AnswersPlan task v result written)

-- a call of the wire failed exactly where a command ends with such a fault
abbrev pub failing : CliFault → WireLog → WireLog
failing Read l = read_failed l
failing (Write fault) l = write_failed l
failing fault l = l

abbrev pub failed_by : {T : Type 0} → Result T CliFault → WireLog → WireLog
failed_by (Ok done) l = l
failed_by (Err fault) l = failing fault l

-- how a command ends: what it read and what it wrote, which answers that, and the call that failed
pub record EndsWith (answering : List ℕ → Bool → Result ⊤ CliFault → List ℕ → Type 0) (old new : WireLog)
    (result : Result ⊤ CliFault) : Type 0 where
  pub text : List ℕ
  pub ended : Bool
  pub written : List ℕ
  pub log : new ≡ failed_by result (wrote (read_on text ended old) written)
  pub answers : answering text ended result written

-- ---- where a plan is read from

-- what stands at the path of a plan's file, where one is named; else the plan is read from the wire
abbrev pub plan_place : (List ℕ → Place) → Option (Bor (List ℕ)) → Option Place
plan_place places plan = option_map (λ path. places path.now) plan

abbrev pub source_place : {F : Type 0} → (F → List ℕ → Place) → PlanSource F → Option Place
source_place log source.Input = None
source_place log (source.File files path) = Some (log files.now path.now)

-- a text is that of a plan's file: its first bytes, as many as are read at most
pub record IsPlanText (place : Place) (text : List ℕ) : Type 0 where
  pub short : length text ≤ TEXT_LIMIT
  pub start : IsStart TEXT_LIMIT text place

-- a plan's file was not read, and the wire is as it was
abbrev pub IsUnread : {T : Type 0} → Place → Result T CliFault → WireLog → WireLog → Type 0
IsUnread place (Ok value) old new = ⊥
IsUnread place (Err fault) old new =
    (cause : OpenFault) × MayNotRead cause place × (fault ≡ fault_of_files cause) × (new ≡ old)

-- the plan has a file, which was not read
abbrev pub HasUnread : Option Place → Result ⊤ CliFault → WireLog → WireLog → Type 0
HasUnread None result old new = ⊥
HasUnread (Some place) result old new = IsUnread place result old new

-- how a command ends that read a text from a file: the wire gave nothing, and was written to as an answer says to this
-- text, all of which was read. So no read of the wire fails
pub record EndsOnText (answering : List ℕ → Bool → Result ⊤ CliFault → List ℕ → Type 0) (place : Place)
    (old new : WireLog) (result : Result ⊤ CliFault) : Type 0 where
  pub text : List ℕ
  pub is : IsPlanText place text
  pub written : List ℕ
  pub log : new ≡ failed_by result (wrote old written)
  pub answers : answering text (nat_lt (length text) TEXT_LIMIT) result written

-- how a command ends that read from its wire, or from a file
abbrev pub EndsRead : (List ℕ → Bool → Result ⊤ CliFault → List ℕ → Type 0) → Option Place → WireLog → WireLog
    → Result ⊤ CliFault → Type 0
EndsRead answering None old new result = EndsWith answering old new result
EndsRead answering (Some place) old new result = EndsOnText answering place old new result

-- how a command ends, by where its plan is read from
abbrev pub EndsFrom : (List ℕ → Bool → Result ⊤ CliFault → List ℕ → Type 0) → Option Place → WireLog → WireLog
    → Result ⊤ CliFault → Type 0
EndsFrom answering None old new result = EndsWith answering old new result
EndsFrom answering (Some place) old new result =
    EndsOnText answering place old new result ⊎ IsUnread place result old new

-- ---- commands

-- one that works on a plan
abbrev pub EndsCommand : Task → WireLog → WireLog → Result ⊤ CliFault → Type 0
EndsCommand task old new result = EndsWith (CommandAnswers task) old new result

-- and by where the plan is read from
abbrev pub EndsCommandFrom : Task → Option Place → WireLog → WireLog → Result ⊤ CliFault → Type 0
EndsCommandFrom task plan old new result = EndsFrom (CommandAnswers task) plan old new result

-- the answer of `check`
abbrev pub check_task : Task
check_task = record { answers = λ v whole. whole ≡ check_text v; fails = λ v fault. ⊥ }

-- and that of `canonical`
abbrev pub canonical_task : Task
canonical_task = record { answers = λ v whole. whole ≡ canonical_line v; fails = λ v fault. ⊥ }

-- what reading up to a limit gives: the text, or a fault before it was read
abbrev pub GivesText : ℕ → Result (List ℕ) CliFault → WireLog → WireLog → Type 0
GivesText limit (Ok text) old new =
    (length text ≤ limit) × (new ≡ read_on text (nat_lt (length text) limit) old)
GivesText limit (Err Memory) old new = new ≡ old
GivesText limit (Err Read) old new =
    (bytes : List ℕ) × (length bytes < limit) × (new ≡ read_failed (read_on bytes false old))
GivesText limit (Err fault) old new = ⊥

-- the same by where it is read from
abbrev pub GivesTextFrom : Option Place → Result (List ℕ) CliFault → WireLog → WireLog → Type 0
GivesTextFrom None result old new = GivesText TEXT_LIMIT result old new
GivesTextFrom (Some place) (Ok text) old new = IsPlanText place text × (new ≡ old)
GivesTextFrom (Some place) (Err fault) old new = IsUnread {T = List ℕ} place (Err fault) old new

-- the plan that a text is, or why there is none
abbrev pub IsReadAs : List ℕ → Bool → Result Values CliFault → Type 0
IsReadAs text ended (Ok v) = IsReadThrough TEXT_LIMIT text ended × (plan_of text ≡ Ok v)
IsReadAs text ended (Err Memory) = IsReadUnrefused text ended
IsReadAs text ended (Err (Plan refusal)) = IsReadThrough TEXT_LIMIT text ended × (plan_of text ≡ Err refusal)
IsReadAs text ended (Err Read) = IsReadPartly TEXT_LIMIT text ended
IsReadAs text ended (Err fault) = ⊥

-- what reading a plan gives
pub record GivesPlan (result : Result Values CliFault) (old new : WireLog) : Type 0 where
  pub text : List ℕ
  pub ended : Bool
  pub log : new ≡ failed_by result (read_on text ended old)
  pub is : IsReadAs text ended result

-- the same by where it is read from
abbrev pub GivesPlanFrom : Option Place → Result Values CliFault → WireLog → WireLog → Type 0
GivesPlanFrom None result old new = GivesPlan result old new
GivesPlanFrom (Some place) result old new =
    ((text : List ℕ) × (IsPlanText place text × IsReadAs text (nat_lt (length text) TEXT_LIMIT) result × (new ≡ old)))
    ⊎ IsUnread place result old new

-- what a command did not touch, such as a disk: it is as it was if a read failed or the text is no plan, and also if memory
-- ran out, if the plan was not read then; if it was, it is left so by the next step of the command
abbrev pub LeavesUnread : {T : Type 0} → (Values → T → T → Type 0) → Option Place → CliFault → T → T → WireLog → WireLog
    → Type 0
LeavesUnread left plan Read before after old new = after ≡ before
LeavesUnread left plan (Plan refusal) before after old new = after ≡ before
LeavesUnread left plan Memory before after old new =
    (after ≡ before) ⊎ ((v : Values) × (GivesPlanFrom plan (Ok v) old new × left v before after))
LeavesUnread left plan fault before after old new = ⊤

-- an answer was written, or as many of its first bytes as are reported, when a write failed
abbrev pub IsWritten : List ℕ → Result ⊤ CliFault → WireLog → WireLog → Type 0
IsWritten whole (Ok done) old new = new ≡ wrote old whole
IsWritten whole (Err (Write fault)) old new =
    (fault.sent < length whole) × (new ≡ write_failed (wrote old (take fault.sent whole)))
IsWritten whole (Err fault) old new = ⊥

-- what a command leaves that works on a plan
pub record LeavesStudy (task : Task) (v : Values) (result : Result ⊤ CliFault) (old new : WireLog) : Type 0 where
  pub written : List ℕ
  pub log : new ≡ failed_by result (wrote old written)
  pub answers : AnswersPlan task v result written

-- ---- over a file

-- how a command ends over what stands at a path, where it makes a file if there is none, and what stands there then: the
-- file was opened, and shut with what its disk holds; or it was not opened, and nothing was read or written
abbrev pub EndsOver : (DiskLog → DiskLog → Type 0) → Place → Place → WireLog → WireLog → Result ⊤ CliFault → Type 0
EndsOver over place after old new result =
    ((disk : DiskLog) × (back : DiskLog) × (OpensAs Create disk place × (after ≡ closed back place) × over disk back))
    ⊎ ((fault : OpenFault) × (MayNotOpen Create fault place × (after ≡ place) × (result ≡ Err (fault_of_files fault))
    × (new ≡ old)))
