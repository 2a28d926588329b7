use Rattle.std.proofs.Common.{◌≡◌, length, take}
use Rattle.std.specs.List.{flat_map}
use Rattle.std.specs.Str.{chars}
use Rattle.cut_wires.specs.Log.{wrote}
use Rattle.cut_jobs.specs.Quoted.{quoted_char}
use Rattle.cut_jobs.proofs.joins.send_quoted.Given as goal

abbrev pub invariant-loop-character : goal.invariant-loop-character
invariant-loop-character g l =
    g.E.Wire.log l.errors
    ≡ wrote (g.E.Wire.log l.fn.errors) (flat_map quoted_char (take (length l.yielded) (chars l.path)))
