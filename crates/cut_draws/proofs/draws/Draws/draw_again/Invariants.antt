use Rattle.std.proofs.Common.{◌≡◌, map, take}
use Rattle.cut_draws.specs.inside.Packed.{keyed_at}
use Rattle.cut_draws.proofs.draws.Draws.draw_again.Given as goal

abbrev pub invariant-loop-word : goal.invariant-loop-word
invariant-loop-word l = record {
  same : l.self ≡ l.fn.self;
  keys : l.keyed.items ≡ map (λ w. keyed_at l.fn.self l.arrivals.receiver l.arrivals.k w) (take l.word-index l.words);
}
