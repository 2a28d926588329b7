-- The values that a job of a command has.
use Rattle.std.proofs.Common.{◌≡◌, ◌≤◌, ℕ, Bor, List, Some, length, map, sym, ap, subst, codes, arith}
use Rattle.std.proofs.lemmas.List.{length-map}
use Rattle.std.specs.Prelude.{⊤, if◌then◌else◌}
use Rattle.std.specs.Str.{bytes_eq}
use Rattle.clap.specs.Words.{Row, Text, all_of, first_of}
use Rattle.cut_command_line.specs.declared.options.limits.TheConstants.{LARGEST_PIECE, MOST_CHECKPOINTS, MOST_OF_EACH}
use Rattle.cut_command_line.specs.declared.options.limits.TheConstants.{MOST_WORKERS}
use Rattle.cut_command_line.specs.declared.job.Job.{Job}
use Rattle.cut_command_line.specs.declared.job.Job.TheVariants.{Run, Check, Explain, Canonical, Status, Serve}
use Rattle.cut_command_line.specs.declared.job.Job.TheVariants.{Ask, Migrate, Share, Join}
use Rattle.cut_command_line.specs.Line.{AsksForJob, GivesNumber, GivesShare}

-- the commands
pub data Verb : Type 0 where
  to_run : Verb
  to_check : Verb
  to_explain : Verb
  to_canonical : Verb
  to_status : Verb
  to_serve : Verb
  to_ask : Verb
  to_migrate : Verb
  to_share : Verb
  to_join : Verb

-- the command of a job
abbrev pub verb_of : Job → Verb
verb_of (Run options) = to_run
verb_of (Check plan) = to_check
verb_of (Explain plan) = to_explain
verb_of (Canonical plan) = to_canonical
verb_of (Status file) = to_status
verb_of (Serve options) = to_serve
verb_of (Ask options) = to_ask
verb_of (Migrate options) = to_migrate
verb_of (Share options) = to_share
verb_of (Join options) = to_join

-- the command of a name
abbrev pub verb_in : Text → Verb
verb_in name =
    if bytes_eq name (codes "run") then to_run else
    if bytes_eq name (codes "check") then to_check else
    if bytes_eq name (codes "explain") then to_explain else
    if bytes_eq name (codes "canonical") then to_canonical else
    if bytes_eq name (codes "status") then to_status else
    if bytes_eq name (codes "serve") then to_serve else
    if bytes_eq name (codes "ask") then to_ask else
    if bytes_eq name (codes "migrate") then to_migrate else
    if bytes_eq name (codes "share") then to_share else
    to_join

-- a job that the command of a name asks for is of that command
pub is_of : (name : Text) (rows : List Row) (job : Job) → AsksForJob name rows job → verb_of job ≡ verb_in name
is_of name rows (Run options) asks = sym (ap verb_in asks.0)
is_of name rows (Check plan) asks = sym (ap verb_in asks.0)
is_of name rows (Explain plan) asks = sym (ap verb_in asks.0)
is_of name rows (Canonical plan) asks = sym (ap verb_in asks.0)
is_of name rows (Status file) asks = sym (ap verb_in asks.0)
is_of name rows (Serve options) asks = sym (ap verb_in asks.0)
is_of name rows (Ask options) asks = sym (ap verb_in asks.0)
is_of name rows (Migrate options) asks = sym (ap verb_in asks.0)
is_of name rows (Share options) asks = sym (ap verb_in asks.0)
is_of name rows (Join options) asks = sym (ap verb_in asks.0)

-- what is given with a command
abbrev pub Values : Verb → List Row → Type 0
Values to_run rows =
    ((n : ℕ) × GivesNumber (codes "piece") LARGEST_PIECE rows n)
    × ((n : ℕ) × GivesNumber (codes "workers") MOST_WORKERS rows n)
Values to_check rows = ⊤
Values to_explain rows = ⊤
Values to_canonical rows = ⊤
Values to_status rows = (path : Text) × (first_of (codes "file") rows ≡ Some path)
Values to_serve rows =
    ((path : Text) × (first_of (codes "socket") rows ≡ Some path))
    × ((n : ℕ) × GivesNumber (codes "workers") MOST_OF_EACH rows n)
    × ((n : ℕ) × GivesNumber (codes "sessions") MOST_OF_EACH rows n)
    × ((n : ℕ) × GivesNumber (codes "studies") MOST_OF_EACH rows n)
Values to_ask rows = (path : Text) × (first_of (codes "socket") rows ≡ Some path)
Values to_migrate rows =
    ((path : Text) × (first_of (codes "old") rows ≡ Some path))
    × ((path : Text) × (first_of (codes "new") rows ≡ Some path))
Values to_share rows =
    ((n : ℕ) × ((m : ℕ) × GivesShare rows n m)) × ((path : Text) × (first_of (codes "file") rows ≡ Some path))
    × ((n : ℕ) × GivesNumber (codes "piece") LARGEST_PIECE rows n)
    × ((n : ℕ) × GivesNumber (codes "workers") MOST_WORKERS rows n)
Values to_join rows =
    ((path : Text) × (first_of (codes "new") rows ≡ Some path))
    × ((paths : List Text) × ((all_of (codes "old") rows ≡ Some paths) × (length paths ≤ MOST_CHECKPOINTS)))

few_texts : (files : List (Bor Text)) → length files ≤ MOST_CHECKPOINTS → length (map (λ s. s.now) files) ≤ MOST_CHECKPOINTS
few_texts files few = omega (arith, few, length-map files (λ s. s.now))

values_of : (name : Text) (rows : List Row) (job : Job) → AsksForJob name rows job → Values (verb_of job) rows
values_of name rows (Run options) asks = ((options.piece, asks.1), (options.workers, asks.2))
values_of name rows (Check plan) asks = tt
values_of name rows (Explain plan) asks = tt
values_of name rows (Canonical plan) asks = tt
values_of name rows (Status file) asks = (file.now, asks.1)
values_of name rows (Serve options) asks =
    ((options.socket.now, asks.1), (options.workers, asks.2), (options.sessions, asks.3), (options.studies, asks.4))
values_of name rows (Ask options) asks = (options.socket.now, asks.1)
values_of name rows (Migrate options) asks = ((options.old.now, asks.1), (options.new.now, asks.2))
values_of name rows (Share options) asks = (
  (options.index, (options.shares, asks.1)),
  (options.file.now, asks.2),
  (options.piece, asks.3),
  (options.workers, asks.4),
)
values_of name rows (Join options) asks = (
  (options.new.now, asks.1),
  (map (λ s. s.now) options.old.items, (asks.2, few_texts options.old.items asks.3)),
)

-- a job that a command asks for has what is given with it
pub values : (name : Text) (rows : List Row) (job : Job) → AsksForJob name rows job → Values (verb_in name) rows
values name rows job asks =
    subst (λ (verb : Verb). Values verb rows) (is_of name rows job asks) (values_of name rows job asks)
