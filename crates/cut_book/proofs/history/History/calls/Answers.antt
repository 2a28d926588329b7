use Rattle.std.proofs.lemmas.Grind.{common_steps}
use Rattle.std.proofs.Common.{arith}
use Rattle.std.proofs.lemmas.List.{drop_all, length-drop, take_all}
use Rattle.cut_book.proofs.Merged.{bounds_at, within}
use Rattle.cut_book.proofs.history.History.calls.Goals as goal

pub offset_bounds-losses-listed : goal.offset_bounds-losses-listed
offset_bounds-losses-listed c =
    grind (arith, within)

pub slice_bounds-push_losses-end : goal.slice_bounds-push_losses-end
slice_bounds-push_losses-end c =
    grind (arith, common_steps, bounds_at)

pub loop-entry-init : goal.loop-entry-init
loop-entry-init c = grind arith

pub loop-entry-preserved : goal.loop-entry-preserved
loop-entry-preserved c =
    grind (arith, common_steps)

pub returns-clause-calls : goal.returns-clause-calls
returns-clause-calls c =
    grind (arith, drop_all, take_all, length-drop)
