use Rattle.std.proofs.Common.{◌++◌, [], ◌∷◌, map, sym, ap, ◌∙◌, arith}
use Rattle.std.specs.List.{range_with_len}
use Rattle.std.specs.Mem.Slots.{slots_items}
use Rattle.std.proofs.lemmas.List.FromFn.{map-range_with_len_more}
use Rattle.cut_board.specs.inside.Closed.{words_of_study}
use Rattle.cut_board.proofs.board.read_totals.Goals as goal

pub loop-study-preserved : goal.loop-study-preserved
loop-study-preserved c =
    let study = c.loop-study.study in
    let reported = words_of_study (slots_items c.args.closed.now.words) in
    record {
      reported = c.push_reserved.ensures.items
          ∙ ap (λ xs. xs ++ c.study_totals.result ∷ []) c.loop-study.invariant.reported
          ∙ ap (λ x. map reported (range_with_len 0 study) ++ x ∷ []) c.study_totals.ensures
          ∙ sym (map-range_with_len_more reported 0 study study (omega arith));
      many = omega (arith, c.push_reserved.ensures.len);
      room = omega (arith, c.push_reserved.ensures.capacity);
    }
