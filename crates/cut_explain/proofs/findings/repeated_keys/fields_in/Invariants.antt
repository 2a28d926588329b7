use Rattle.std.proofs.Common.{length}
use Rattle.cut_explain.proofs.findings.repeated_keys.fields_in.Given as goal

-- each turn takes a token
abbrev pub decreases-loop-token : goal.decreases-loop-token
decreases-loop-token l = length l.reader
