use Rattle.std.proofs.Common.{◌≡◌, ◌+◌}
use Rattle.cut_draws.proofs.draws.skip.Given as goal

abbrev pub invariant-loop-i : goal.invariant-loop-i
invariant-loop-i l = l.words ≡ record l.fn.words { word_pos = l.fn.words.word_pos + l._i }
