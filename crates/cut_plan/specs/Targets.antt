-- How the targets of a cell fail: which have crashed, and which are deaf. (This project's profile.)
use Rattle.std.specs.Prelude.{ℕ, List, min}
use Rattle.cut_plan.specs.declared.faults.Faults.TheVariants.{Crash, Deaf}
use Rattle.cut_plan.specs.declared.failing.Failing.{Failing}
use Rattle.cut_plan.specs.declared.failing.Failing.TheVariants.{Alike, Mixed}
use Rattle.cut_plan.specs.Values.{Values}
use Rattle.cut_plan.specs.Cells.{largest}

-- how many of f targets are deaf: at most f
abbrev pub deaf_among : Failing → ℕ → ℕ
deaf_among (Alike Crash) f = 0
deaf_among (Alike Deaf) f = f
deaf_among (Mixed deaf) f = min deaf f

-- how many of f targets of a plan are deaf; the others have crashed
abbrev pub deaf_of : Values → ℕ → ℕ
deaf_of v f = deaf_among v.failing f

-- a number of deaf targets by which these numbers of targets all fail in this way
abbrev pub most_deaf : Failing → List ℕ → ℕ
most_deaf (Alike Crash) fs = 0
most_deaf (Alike Deaf) fs = largest fs
most_deaf (Mixed deaf) fs = deaf

-- the plan of version 2 whose targets fail in the same way
abbrev pub upgraded : Values → Values
upgraded v = record v { failing = Mixed (most_deaf v.failing v.f) }
