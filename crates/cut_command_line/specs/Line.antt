-- What the program's command line asks for.
use Rattle.std.specs.Prelude.{◌≡◌, ◌⊎◌, ◌≤◌, ◌++◌, ℕ, Bool, List, [], true, false, length, codes}
use Rattle.std.specs.Prelude.{Option, Some, None, option_map, map, ⊤}
use Rattle.std.specs.Borrow.{Bor}
use Rattle.std.specs.Str.Parse.{IsNumeral, digits_value, without_leading_plus}
use Rattle.cut_command_line.specs.declared.options.limits.TheConstants.{LARGEST_PIECE, MOST_CHECKPOINTS, MOST_OF_EACH}
use Rattle.cut_command_line.specs.declared.options.limits.TheConstants.{MOST_SHARES, MOST_WORKERS}
use Rattle.cut_command_line.specs.options.Options.{program_app}
use Rattle.clap.specs.Words.{IsAmong, all_of, first_of, Row, Text, fault_of, one_of, subcommand_of}
use Rattle.clap.specs.declared.error.kind.ErrorKind.{ErrorKind}
use Rattle.clap.specs.declared.error.kind.ErrorKind.TheVariants.{DisplayHelp, DisplayVersion, OutOfMemory}
use Rattle.clap.specs.declared.error.kind.ErrorKind.TheVariants.{ValueValidation}
use Rattle.cut_command_line.specs.declared.job.Job.{Job}
use Rattle.cut_command_line.specs.declared.job.Job.TheVariants.{Run, Check, Explain, Canonical, Status, Serve}
use Rattle.cut_command_line.specs.declared.job.Job.TheVariants.{Ask, Migrate, Share, Join}

-- a text is a number from 1 to a greatest one, in decimal
pub record IsNumberIn (most : ℕ) (text : Text) (n : ℕ) : Type 0 where
  pub numeral : IsNumeral 10 (without_leading_plus text)
  pub value : digits_value 10 (without_leading_plus text) ≡ n
  pub some : 1 ≤ n
  pub few : n ≤ most

-- and in decimal digits alone, with no sign
pub record IsDigitsIn (most : ℕ) (text : Text) (n : ℕ) : Type 0 where
  pub numeral : IsNumeral 10 text
  pub value : digits_value 10 text ≡ n
  pub some : 1 ≤ n
  pub few : n ≤ most

-- the number, from 1 to a greatest one, that a subcommand's matches give for an option
pub record GivesNumber (option : Text) (most : ℕ) (rows : List Row) (n : ℕ) : Type 0 where
  pub text : Text
  pub given : one_of option rows ≡ Some text
  pub is : IsNumberIn most text n

-- whether they give a flag, which is a text that says so
pub record GivesFlag (flag : Text) (rows : List Row) (is_given : Bool) : Type 0 where
  pub none : one_of flag rows ≡ None → is_given ≡ false
  pub yes : one_of flag rows ≡ Some (codes "true") → is_given ≡ true
  pub no : one_of flag rows ≡ Some (codes "false") → is_given ≡ false

-- the share that they give: its number, a slash, and how many shares there are
pub record GivesShare (rows : List Row) (index shares : ℕ) : Type 0 where
  pub first : Text
  pub second : Text
  pub given : first_of (codes "share") rows ≡ Some (first ++ codes "/" ++ second)
  pub index_is : IsDigitsIn MOST_SHARES first index
  pub shares_are : IsDigitsIn MOST_SHARES second shares
  pub within : index ≤ shares

-- the file of the plan that they give, if they give one
abbrev pub GivesPlan : List Row → Option (Bor Text) → Type 0
GivesPlan rows plan = first_of (codes "plan") rows ≡ option_map (λ s. s.now) plan

-- a subcommand, by its name and its matches, asks for a job
abbrev pub AsksForJob : Text → List Row → Job → Type 0
AsksForJob name rows (Run options) =
    (name ≡ codes "run") × GivesNumber (codes "piece") LARGEST_PIECE rows options.piece
    × GivesNumber (codes "workers") MOST_WORKERS rows options.workers
    × (first_of (codes "checkpoint") rows ≡ option_map (λ s. s.now) options.checkpoint)
    × GivesFlag (codes "progress") rows options.progress × GivesPlan rows options.plan
AsksForJob name rows (Check plan) = (name ≡ codes "check") × GivesPlan rows plan
AsksForJob name rows (Explain plan) = (name ≡ codes "explain") × GivesPlan rows plan
AsksForJob name rows (Canonical plan) = (name ≡ codes "canonical") × GivesPlan rows plan
AsksForJob name rows (Status file) = (name ≡ codes "status") × (first_of (codes "file") rows ≡ Some file.now)
AsksForJob name rows (Serve options) =
    (name ≡ codes "serve") × (first_of (codes "socket") rows ≡ Some options.socket.now)
    × GivesNumber (codes "workers") MOST_OF_EACH rows options.workers
    × GivesNumber (codes "sessions") MOST_OF_EACH rows options.sessions
    × GivesNumber (codes "studies") MOST_OF_EACH rows options.studies
    × (first_of (codes "dir") rows ≡ option_map (λ s. s.now) options.folder)
AsksForJob name rows (Ask options) =
    (name ≡ codes "ask") × (first_of (codes "socket") rows ≡ Some options.socket.now) × GivesPlan rows options.plan
AsksForJob name rows (Migrate options) =
    (name ≡ codes "migrate") × (first_of (codes "old") rows ≡ Some options.old.now)
    × (first_of (codes "new") rows ≡ Some options.new.now) × GivesPlan rows options.plan
AsksForJob name rows (Share options) =
    (name ≡ codes "share") × GivesShare rows options.index options.shares
    × (first_of (codes "file") rows ≡ Some options.file.now)
    × GivesNumber (codes "piece") LARGEST_PIECE rows options.piece
    × GivesNumber (codes "workers") MOST_WORKERS rows options.workers
    × GivesFlag (codes "progress") rows options.progress × GivesPlan rows options.plan
AsksForJob name rows (Join options) =
    (name ≡ codes "join") × (first_of (codes "new") rows ≡ Some options.new.now)
    × (all_of (codes "old") rows ≡ Some (map (λ s. s.now) options.old.items))
    × (length options.old.items ≤ MOST_CHECKPOINTS) × GivesFlag (codes "which") rows options.which
    × GivesPlan rows options.plan

-- the job that a command line names
abbrev pub NamesJob : List Text → Job → Type 0
NamesJob words job = (sub : Text × List Row) × (subcommand_of program_app words ≡ Some sub) × AsksForJob sub.0 sub.1 job

-- the status with which the program ends where clap gives no matches: 0 where help was asked for, 5 if memory ran out,
-- and 2 at a mistake
abbrev pub status_of_kind : ErrorKind → ℕ
status_of_kind DisplayHelp = 0
status_of_kind DisplayVersion = 0
status_of_kind OutOfMemory = 5
status_of_kind kind = 2

-- why a command line gives no job: clap found this in it, memory ran out, or clap finds nothing in it and a value of it
-- is none, so that no job is named
abbrev pub IsAsked : List Text → ErrorKind → Type 0
IsAsked words kind =
    IsAmong kind (fault_of program_app words) ⊎ (kind ≡ OutOfMemory)
    ⊎ (((job : Job) → NamesJob words job → ⊥) × (fault_of program_app words ≡ []) × (kind ≡ ValueValidation))

-- how a command line without a job ends: with exactly the status of what clap found, and without a text if memory ran
-- out
abbrev pub EndsLine : List Text → ℕ → List ℕ → Type 0
EndsLine words status text =
    (kind : ErrorKind) × IsAsked words kind × (status ≡ status_of_kind kind) × (kind ≡ OutOfMemory → text ≡ [])

-- the pieces of a job have some trials, and it has some of each that it is to have, and no more than the options allow
abbrev pub IsSizedJob : Job → Type 0
IsSizedJob (Run options) =
    (1 ≤ options.piece) × (options.piece ≤ LARGEST_PIECE) × (1 ≤ options.workers) × (options.workers ≤ MOST_WORKERS)
IsSizedJob (Check plan) = ⊤
IsSizedJob (Explain plan) = ⊤
IsSizedJob (Canonical plan) = ⊤
IsSizedJob (Status file) = ⊤
IsSizedJob (Serve options) =
    (1 ≤ options.workers) × (options.workers ≤ MOST_OF_EACH) × (1 ≤ options.sessions)
    × (options.sessions ≤ MOST_OF_EACH) × (1 ≤ options.studies) × (options.studies ≤ MOST_OF_EACH)
IsSizedJob (Ask options) = ⊤
IsSizedJob (Migrate options) = ⊤
IsSizedJob (Share options) =
    (1 ≤ options.index) × (options.index ≤ options.shares) × (options.shares ≤ MOST_SHARES) × (1 ≤ options.piece)
    × (options.piece ≤ LARGEST_PIECE) × (1 ≤ options.workers) × (options.workers ≤ MOST_WORKERS)
IsSizedJob (Join options) = length options.old.items ≤ MOST_CHECKPOINTS
