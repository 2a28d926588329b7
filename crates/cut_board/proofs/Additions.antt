-- What a count and a read do to what was seen of each study.
use Rattle.std.proofs.Common.{◌≡◌, ℕ, ◌≤◌, arith}
use Rattle.std.proofs.lemmas.List.Sums.{sum_by_push}
use Rattle.cut_board.specs.declared.view.View.{View}
use Rattle.cut_board.specs.Laws.{CountsAreSeen, ReadsAreSeen}
use Rattle.cut_board.specs.Views.{seen_in, read}
use Rattle.cut_board.proofs.Logs.{greatest-append}

pub counts_are_seen : CountsAreSeen
unfolding seen_in
counts_are_seen v study n k = grind (arith, sum_by_push, greatest-append)

pub reads_are_seen : ReadsAreSeen
unfolding seen_in
reads_are_seen v study n k = grind (arith, sum_by_push, greatest-append)

-- a read that is no less than what was seen before is what is seen then
pub reads_new : (v : View) (study n : ℕ) → seen_in study v ≤ n → n ≡ seen_in study (read v study n)
reads_new v study n rises =
    grind (arith, reads_are_seen)
