use Rattle.std.proofs.Common.{◌≡◌, vec_len}
use Rattle.cut_shares.proofs.share.piece_task.new_tasks.Given as goal

abbrev pub invariant-loop : goal.invariant-loop
invariant-loop l = vec_len l.tasks ≡ l.counter
