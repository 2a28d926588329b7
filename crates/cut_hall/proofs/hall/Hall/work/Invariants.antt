use Rattle.std.proofs.Common.{◌≡◌, ◌≤◌}
use Rattle.cut_hall.proofs.hall.Hall.work.Given as goal

-- the pass is still the hall's, and made no fewer calls
abbrev pub invariant-loop-study : goal.invariant-loop-study
invariant-loop-study g l = record {
  own : l.pass.hall ≡ l.fn.pass.hall;
  made : l.fn.pass.made ≤ l.pass.made;
}
