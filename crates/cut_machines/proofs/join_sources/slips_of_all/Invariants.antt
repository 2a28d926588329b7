use Rattle.std.proofs.Common.{take}
use Rattle.cut_machines.specs.JoinSources.{AreRead, HoldAll}
use Rattle.cut_machines.proofs.JoinSourceLemmas.{paths_of}
use Rattle.cut_machines.proofs.join_sources.slips_of_all.Given as goal

-- the files so far were read, and these are their slips
abbrev pub invariant-loop-index : goal.invariant-loop-index
invariant-loop-index g l = record {
  held : HoldAll (g.F.Files.log l.fn.files) (take l.index (paths_of l.paths)) l.plan l.slips.items;
  read : AreRead (g.F.Files.log l.fn.files) (g.F.Files.log l.files) (take l.index (paths_of l.paths));
}
