-- What is said of a study by its counts.
use Rattle.std.specs.Prelude.{ℕ, ◌-◌, ◌*◌, ◌/◌, ◌^◌, ◌==◌, ◌||◌, min, Option, Some, None, if◌then◌else◌}
use Rattle.cut_progress.specs.declared.counts.Counts.{Counts}
use Rattle.cut_progress.specs.declared.progress_line.ProgressLine.{ProgressLine}

-- for how many seconds it is still to be run, after this many seconds in which some of its trials were run: those that
-- are not held take as long each as these took. None if no trial was run, or if it has ended.
abbrev pub seconds_left : Counts → ℕ → Option ℕ
seconds_left c seconds =
    if (c.held - c.first == 0) || c.has_ended then None
    else Some (min (seconds * (c.all - c.held)) (2 ^ 64 - 1) / (c.held - c.first))

-- the line of it then
abbrev pub line_of : Counts → ℕ → ProgressLine
line_of c seconds = record { held = c.held; all = c.all; seconds = seconds; left = seconds_left c seconds }
