use Rattle.std.proofs.Common.{◌≡◌, sym}
use Rattle.std.specs.Mem.Slots.{slots_items}
use Rattle.cut_board.specs.inside.Words.{draw_word, count_word, draws_at, count_at}
use Rattle.cut_board.proofs.Lists.{at_place}
use Rattle.cut_board.proofs.board.study_totals.Goals as goal

pub returns : goal.returns
returns c =
    let words = slots_items c.args.closed.now.words in
    let draws : draws_at words c.args.study ≡ c.word.result =
    (at_place words (draw_word c.args.study) c.word.result 0 (rw (sym c.draw_place.ensures) c.word.ensures)).1 in
    let count : count_at words c.args.study ≡ c.word-2.result =
    (at_place words (count_word c.args.study) c.word-2.result 0 (rw (sym c.count_place.ensures) c.word-2.ensures)).1 in
    λ i. record { draws = sym draws i; count = sym count i }
