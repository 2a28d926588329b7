use Rattle.std.proofs.Common.{◌≡◌, ◌≤◌, map, vec_len, vec_capacity}
use Rattle.std.specs.List.{range_with_len}
use Rattle.std.specs.Mem.Slots.{slots_items}
use Rattle.cut_board.specs.inside.Closed.{words_of_study}
use Rattle.cut_board.proofs.board.read_totals.Given as goal

abbrev pub invariant-loop-study : goal.invariant-loop-study
invariant-loop-study l = record {
  reported : l.totals.items ≡ map (words_of_study (slots_items l.closed.words)) (range_with_len 0 l.study);
  many : vec_len l.totals ≡ l.study;
  room : l.studies ≤ vec_capacity l.totals;
}
