-- What only the crate's own clauses and proofs cite, beside specs/Line.antt.
use Rattle.std.specs.Prelude.{List, Option, Some, None}
use Rattle.clap.specs.Words.{Row, Text}
use Rattle.cut_command_line.specs.declared.job.Job.{Job}
use Rattle.cut_command_line.specs.Line.{AsksForJob}

-- the matches of a subcommand give a job of it, or none
abbrev pub GivesJob : Text → List Row → Option Job → Type 0
GivesJob name rows (Some job) = AsksForJob name rows job
GivesJob name rows None = (job : Job) → AsksForJob name rows job → ⊥

-- the job of a subcommand, if there is one
abbrev pub IsJobOf : Option (Text × List Row) → Job → Type 0
IsJobOf None job = ⊥
IsJobOf (Some sub) job = AsksForJob sub.0 sub.1 job
