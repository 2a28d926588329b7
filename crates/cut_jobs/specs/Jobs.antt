-- What each job leaves in its files, of its sockets, on the program's wire and on its errors.
use Rattle.std.specs.Prelude.{◌≡◌, ◌+◌, ◌++◌, ℕ, Bool, true, false, List, ◌∷◌, [], length, map, codes, Option, Some, None}
use Rattle.std.specs.Prelude.{Result, ⊤}
use Rattle.std.specs.Borrow.{Bor}
use Rattle.std.specs.Fmt.{decimal}
use Rattle.cut_wires.specs.Log.{WireLog}
use Rattle.cut_progress.specs.Printed.{HasPrinted}
use Rattle.cut_files.specs.Place.{Place, StaysElsewhere, while_open}
use Rattle.cut_sockets.specs.Peer.{KeepsOtherPeers}
use Rattle.cut_machines.specs.JoinCommand.{EndsJoin, NamesRefusedFile}
use Rattle.cut_shares.specs.declared.share.share.Share as share
use Rattle.cut_machines.specs.Share.{EndsShare}
use Rattle.cut_commands.specs.Ask.{EndsAsk}
use Rattle.cut_commands.specs.Migrate.{EndsMigrate, StaysBeside}
use Rattle.cut_commands.specs.Explain.{Explains}
use Rattle.cut_commands.specs.Run.{EndsCommandFrom, EndsFrom, canonical_task, check_task, plan_place}
use Rattle.cut_commands.specs.Status.{EndsStatus}
use Rattle.cut_commands.specs.Study.{EndsRun}
use Rattle.cut_server.specs.Serve.{EndsServing}
use Rattle.cut_command_line.specs.declared.job.ShareOptions.{ShareOptions}
use Rattle.cut_command_line.specs.declared.job.Job.{Job}
use Rattle.cut_command_line.specs.declared.job.Job.TheVariants.{Run, Check, Explain, Canonical, Status, Serve}
use Rattle.cut_command_line.specs.declared.job.Job.TheVariants.{Ask, Migrate, Share, Join}
use Rattle.cut_commands.specs.declared.fault.CliFault.{CliFault}
use Rattle.cut_jobs.specs.Paths.{Paths}
use Rattle.cut_jobs.specs.Quoted.{quoted}
use Rattle.cut_jobs.specs.Sending.{IsSent}

-- ---- how a job ends, and what stands at each path of its files before and then

-- a share: that of its numbers, by its file and that of its plan, if it has one
abbrev pub EndsShareOf : ShareOptions → (List ℕ → Place) → (List ℕ → Place) → WireLog → WireLog → Result ⊤ CliFault → Type 0
EndsShareOf o before after old new result =
    (s : share.Share) × (s.index ≡ o.index) × (s.shares ≡ o.shares) × (s.block_size ≡ o.piece)
    × EndsShare result s (plan_place (while_open o.file.now before) o.plan) (before o.file.now) (after o.file.now) old new
    × StaysElsewhere o.file.now before after

-- a server was asked, at a socket, for the table of a plan
abbrev pub EndsAskAt : List ℕ → Option (Bor (List ℕ)) → Paths → Paths → WireLog → WireLog → Result ⊤ CliFault → Type 0
EndsAskAt socket plan before after old new result =
    EndsAsk (plan_place before.places plan) (before.peers socket) (after.peers socket) old new result
    × KeepsOtherPeers socket before.peers after.peers × (after.places ≡ before.places)

-- a job. What is not said to change at a path stays; the files and the socket of a server are the system's, of which
-- nothing is known
abbrev pub EndsJob : Job → Paths → Paths → WireLog → WireLog → Result ⊤ CliFault → Type 0
EndsJob (Run o) before after old new result =
    EndsRun o.checkpoint o.plan before.places after.places old new result × (after.peers ≡ before.peers)
EndsJob (Check plan) before after old new result =
    EndsCommandFrom check_task (plan_place before.places plan) old new result × (after ≡ before)
EndsJob (Explain plan) before after old new result =
    EndsFrom Explains (plan_place before.places plan) old new result × (after ≡ before)
EndsJob (Canonical plan) before after old new result =
    EndsCommandFrom canonical_task (plan_place before.places plan) old new result × (after ≡ before)
EndsJob (Status file) before after old new result =
    EndsStatus (before.places file.now) old new result × (after ≡ before)
EndsJob (Serve o) before after old new result = EndsServing o.studies result old new × (after ≡ before)
EndsJob (Ask o) before after old new result = EndsAskAt o.socket.now o.plan before after old new result
EndsJob (Migrate o) before after old new result =
    EndsMigrate o.old.now o.new.now o.plan before.places after.places old new result
    × StaysBeside o.old.now o.new.now before.places after.places × (after.peers ≡ before.peers)
EndsJob (Share o) before after old new result =
    EndsShareOf o before.places after.places old new result × (after.peers ≡ before.peers)
EndsJob (Join o) before after old new result =
    (refused : Option ℕ)
    × EndsJoin o.new.now (map (λ s. s.now) o.old.items) o.plan before.places after.places old new result refused
    × (after.peers ≡ before.peers)

-- the line that says which file is refused, by its place and its path, which is quoted, so that it can't end the line
abbrev pub file_line : ℕ → List ℕ → List ℕ
file_line place path = codes "cutlab: file " ++ decimal place ++ codes ": " ++ quoted path ++ 10 ∷ []

-- what is printed on the errors of the one of these files that is refused, if one is: the line of its place, from 1,
-- and its path, up to a write that failed
abbrev pub PrintsRefused : List (List ℕ) → Option ℕ → WireLog → WireLog → Type 0
PrintsRefused paths None old new = new ≡ old
PrintsRefused paths (Some place) old new =
    (before : List (List ℕ)) × (path : List ℕ) × (after : List (List ℕ)) × (paths ≡ before ++ path ∷ after)
    × (place ≡ length before + 1) × IsSent (file_line place path) old new

-- what is printed there where progress is asked for, and if it is not
abbrev pub PrintsIf : Bool → WireLog → WireLog → Type 0
PrintsIf true old new = HasPrinted old new
PrintsIf false old new = new ≡ old

-- what is printed there if it is asked which of these files is refused, by how the join ended, and if it is not
abbrev pub PrintsFileIf : Bool → List (Bor (List ℕ)) → Result ⊤ CliFault → WireLog → WireLog → Type 0
PrintsFileIf true files ended old new =
    (refused : Option ℕ) × (NamesRefusedFile (length files) ended refused
    × PrintsRefused (map (λ s. s.now) files) refused old new)
PrintsFileIf false files ended old new = new ≡ old

-- the file that is named there, if that is asked for, is the one that the end of the join says is refused
abbrev pub TellsFileIf : Bool → List (List ℕ) → (Option ℕ → Type 0) → WireLog → WireLog → Type 0
TellsFileIf true paths ends old new = (refused : Option ℕ) × (ends refused × PrintsRefused paths refused old new)
TellsFileIf false paths ends old new = ⊤

-- a join names the file that its end says is refused
abbrev pub TellsRefused : Job → (List ℕ → Place) → (List ℕ → Place) → WireLog → WireLog → Result ⊤ CliFault → WireLog
    → WireLog → Type 0
TellsRefused (Join o) before after old new ended errors_old errors_new =
    TellsFileIf o.which (map (λ s. s.now) o.old.items)
    (EndsJoin o.new.now (map (λ s. s.now) o.old.items) o.plan before after old new ended) errors_old errors_new
TellsRefused job before after old new ended errors_old errors_new = ⊤

-- what a job that ends so prints on the errors before that is reported: progress, or which file is refused, if that is
-- asked for
abbrev pub PrintsOn : Job → Result ⊤ CliFault → WireLog → WireLog → Type 0
PrintsOn (Run o) ended old new = PrintsIf o.progress old new
PrintsOn (Share o) ended old new = PrintsIf o.progress old new
PrintsOn (Join o) ended old new = PrintsFileIf o.which o.old.items ended old new
PrintsOn job ended old new = new ≡ old
